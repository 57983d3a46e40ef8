-- Facts of the definitions of a mosaic's text, in the code's steps. Assumes nothing.
use Prim.Native.Nat.{ℕ, zero, suc, ◌+◌, ◌-◌, ◌≤◌, ◌<◌}
use native.Mathlib.Omega.{arith}
use Rattle.std.specs.Prelude.{◌≡◌, Bool, true, false, cond, List, leb, eqb, length, Float, Option, Some, None}
use Rattle.std.specs.Float.Ieee.{eq, ne}
use Rattle.std.proofs.lemmas.Bool.{not-true, not-false}
use Rattle.common.specs.Iter.{iter}
use Rattle.common.specs.IterLaws.{iter_stays}
use Rattle.geom.specs.declared.Quat.{Quat}
use Rattle.text.specs.Bytes.{bytes}
use Rattle.text.specs.Forms.{loose}
use Rattle.text.specs.Lines.{is_at, line_at}
use Rattle.text.specs.declared.lines.Row.{Row}
use Rattle.mosaic_text.specs.MosaicTexts.{end_from, line_turn, same_attitude}
use Rattle.mosaic_text.specs.TileLines.{closed, turn, begun, ended, tile_form, tile_by, wrong_line, next_line, tiles_at}
use Rattle.mosaic_text.specs.declared.tiles.Reading.{Reading}
use Rattle.mosaic_text.specs.declared.tiles.Reading.TheVariants.{More, Closed, Wrong}
use Rattle.std.proofs.Math.Path.{ap}
use Rattle.mosaic_text.specs.declared.tiles.Tiles.{Tiles}

-- ---- where the problem's text ends
module _ (s : List ℕ) where
  pub end_closed : (n i : ℕ) → 0 < n → is_at s i (bytes "))\n") ≡ true → end_from s n i ≡ i + 3
  unfolding end_from
  end_closed zero i h e = absurd (omega arith)
  end_closed (suc n) i h e = simp e

  pub end_tile : (n i : ℕ) → 0 < n → is_at s i (bytes "))\n") ≡ false → is_at s i (bytes "\n (tile") ≡ true → end_from s n i ≡ i + 1
  unfolding end_from
  end_tile zero i h e f = absurd (omega arith)
  end_tile (suc n) i h e f = simp (e, f)

  end_on : (n i : ℕ) → 0 < n → is_at s i (bytes "))\n") ≡ false → is_at s i (bytes "\n (tile") ≡ false → end_from s n i ≡ end_from s (n - 1) (i + 1)
  unfolding end_from
  end_on zero i h e f = absurd (omega arith)
  end_on (suc n) i h e f = let z : suc n - 1 ≡ n = omega arith in rw z (simp (e, f))

  -- of m positions n are passed
  pub end_next : (m i : ℕ) → 0 < m - i → is_at s i (bytes "))\n") ≡ false → is_at s i (bytes "\n (tile") ≡ false → end_from s (m - i) i ≡ end_from s (m - (i + 1)) (i + 1)
  end_next m i h e f = let z : m - (i + 1) ≡ m - i - 1 = omega arith in rw z (end_on (m - i) i h e f)

  pub end_here : (n i : ℕ) → n ≡ 0 → end_from s n i ≡ i
  unfolding end_from
  end_here n i e = rw e

-- ---- the number of a line
pub line_low : (line at k byte n : ℕ) → line ≤ n + 1 → line_turn line at k byte ≤ n + 1 + 1
unfolding line_turn
line_low line at k byte n h = go (leb at k) (eqb byte 10)
  where
    go : (p q : Bool) → cond p line (cond q (line + 1) line) ≤ n + 1 + 1
    go true q = omega arith
    go false true = omega arith
    go false false = omega arith

-- ---- what a test of two floats tells
pub unequal : (a b : Float) → ne a b ≡ true → eq a b ≡ false
unfolding ne
unequal a b h = not-true (eq a b) h

pub not_unequal : (a b : Float) → ne a b ≡ false → eq a b ≡ true
unfolding ne
not_unequal a b h = not-false (eq a b) h

-- the last of the four decides where the first three are equal
pub last_decides : (a b : Quat) → eq a.w b.w ≡ true → eq a.x b.x ≡ true → eq a.y b.y ≡ true → eq a.z b.z ≡ same_attitude a b
unfolding same_attitude
last_decides a b e f g = rw (e, f, g)

-- ---- the loop over the tiles

pub turn_goes : (s : List ℕ) (k at : ℕ) (t : Tiles) (d : Reading) → d ≡ next_line s at t → d ≡ turn s k (More at t)
turn_goes s k at t d e = e

-- a line has one tile at most
abbrev pub AtMost : ℕ → Reading → Type 0
AtMost k (More at t) = t.count ≤ k
AtMost k (Closed t) = t.count ≤ k
AtMost k (Wrong w) = Unit {0}

module _ (s : List ℕ) (at : ℕ) (t : Tiles) where
  pub next_low : (k : ℕ) → t.count ≤ k → AtMost (k + 1) (next_line s at t)
  unfolding next_line closed
  next_low k h = go (is_at s at (bytes ")\n")) (leb (length s) (at + 2)) (line_at loose s at tile_form)
    where
      go : (p q : Bool) (r : Option Row) → AtMost (k + 1) (cond p (cond q (Closed t) (Wrong (wrong_line (at + 2) t))) (tile_by at t r))
      go true true r = omega arith
      go true false r = tt
      go false q (Some r) = omega arith
      go false q None = tt

  pub tiles_low : (k next : ℕ) (more : Tiles) → t.count ≤ k → next_line s at t ≡ More next more → more.count ≤ k + 1
  tiles_low k next more h e = rw e at (next_low k h)

module _ (s : List ℕ) (first : ℕ) (c : Reading) (k : ℕ) (e : c ≡ iter (turn s) (begun first) k) where
  pub tiles_early : k ≤ length s → ((j : ℕ) → turn s j c ≡ c) → ended c ≡ tiles_at s first
  unfolding tiles_at
  tiles_early l h = ap ended (iter_stays (turn s) (begun first) k (length s) l e h)

  pub tiles_whole : k ≡ length s → ended c ≡ tiles_at s first
  unfolding tiles_at
  tiles_whole l = rw (← l) (ap ended e)
