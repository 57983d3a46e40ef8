-- The mosaic of 2 to 64 tiles, and its cut at an inner tile. Over any planner of one slew. Assumes nothing.
use Prim.Native.Nat.{ℕ, zero, suc, ◌+◌, ◌-◌, ◌<◌, ◌≤◌}
use Rattle.std.specs.Prelude.{◌≡◌, Bool, true, false, cond, List, [], ltb, take, drop, Float, Ok, Err}
use Rattle.std.proofs.Math.Path.{refl, ap, ap₂}
use Rattle.std.proofs.Common.{◌∙◌, arith, get_or-take, get_or-drop}
use borrow.Author.Tests.{lt-ltb, le-ltb, ltb-false}
use Rattle.common.specs.Iter.{iter}
use Rattle.geom.specs.declared.Quat.{Quat}
use Rattle.problem.specs.declared.Momenta.{Momenta}
use Rattle.problem.specs.declared.Problem.{Problem}
use Rattle.forward.specs.StepLaws.{refused_going}
use Rattle.mosaic.specs.Mosaics.{Planner, Flight, flew_by, leg_problem, fly, flown, count_fate, nothing, whole_by_value, whole, quat_of, tile_of}
use Rattle.mosaic_laws.specs.Legs.{index_le}
use Rattle.mosaic_laws.specs.Cuts.{from, joined, cut, cut_refused}
use Rattle.common.specs.Refusals.{Fate, refusal, going}

-- where the count is right there are two tiles
pub count_least : (count : ℕ) → count_fate count ≡ going → 2 ≤ count
count_least count e = by (ltb count 2) refl e
  where
    by : (b : Bool) → ltb count 2 ≡ b → cond b (Err (refusal 23 0)) (cond (ltb 64 count) (Err (refusal 23 0)) going) ≡ going → 2 ≤ count
    by true f g = absurd (refused_going g)
    by false f g = ltb-false _ _ f

module _ (plan : Planner) (p : Problem) where
  -- ---- the count, before all else
  pub too_few : (tile : ℕ → Quat) (m : Momenta) (count : ℕ) → count < 2 → whole plan p tile m count ≡ nothing m (refusal 23 0)
  unfolding whole
  too_few tile m count h = rw (lt-ltb count 2 h) refl

  pub too_many : (tile : ℕ → Quat) (m : Momenta) (count : ℕ) → 64 < count → whole plan p tile m count ≡ nothing m (refusal 23 0)
  unfolding whole
  too_many tile m count h = rw (le-ltb count 2 (omega arith), lt-ltb 64 count h) refl

  pub counted : (tile : ℕ → Quat) (m : Momenta) (count : ℕ) → 2 ≤ count → count ≤ 64 → whole plan p tile m count ≡ flown plan p tile m (count - 1)
  unfolding whole
  counted tile m count h k = rw (le-ltb count 2 h, le-ltb 64 count k) refl

  -- ---- n legs read the tiles 0 to n alone
  fly_ext : (t u : ℕ → Quat) (f : Flight) → t f.cursor.index ≡ u f.cursor.index → t (f.cursor.index + 1) ≡ u (f.cursor.index + 1) → fly plan p t f ≡ fly plan p u f
  unfolding fly
  fly_ext t u f a b = ap₂ (λ (x y : Quat). flew_by f.cursor.fate f (plan (leg_problem p x y f.cursor.momenta))) a b

  pub flown_ext : (t u : ℕ → Quat) (m : Momenta) (n : ℕ) → ((i : ℕ) → i ≤ n → t i ≡ u i) → flown plan p t m n ≡ flown plan p u m n
  unfolding flown iter
  flown_ext t u m zero h = refl
  flown_ext t u m (suc n) h =
      let f = flown plan p u m n in
      let k : f.cursor.index ≤ n = index_le plan p u m n in
      ap (fly plan p t) (flown_ext t u m n (λ i l. h i (omega arith))) ∙ fly_ext t u f (h f.cursor.index (omega arith)) (h (f.cursor.index + 1) (omega arith))

  whole_ext_by : (e : Fate) (t u : ℕ → Quat) (m : Momenta) (count : ℕ) → count_fate count ≡ e → ((i : ℕ) → i < count → t i ≡ u i) → whole_by_value e plan p t m count ≡ whole_by_value e plan p u m count
  whole_ext_by (Ok _) t u m count e h = let two : 2 ≤ count = count_least count e in flown_ext t u m (count - 1) (λ i l. h i (omega arith))
  whole_ext_by (Err why) t u m count e h = refl

  -- a mosaic reads its own tiles alone
  pub whole_ext : (t u : ℕ → Quat) (m : Momenta) (count : ℕ) → ((i : ℕ) → i < count → t i ≡ u i) → whole plan p t m count ≡ whole plan p u m count
  unfolding whole
  whole_ext t u m count h = whole_ext_by (count_fate count) t u m count refl h

  -- ---- THE CUT of a mosaic of 2 to 64 tiles at an inner tile c, which is the last of the first half and the first of the second: both halves have 2 to 64 tiles, and
  -- the whole is the first half joined with the second from the first's last momenta; or, where the first half is refused, the first half
  module _ (tile : ℕ → Quat) (m : Momenta) (count c : ℕ) (low : 1 ≤ c) (high : c + 2 ≤ count) (most : count ≤ 64) where
    abbrev pub one : Flight
    one = whole plan p tile m (c + 1)

    abbrev pub two : Flight
    two = whole plan p (from tile c) one.cursor.momenta (count - c)

    one_is : one ≡ flown plan p tile m c
    one_is = let e : c + 1 - 1 ≡ c = omega arith in counted tile m (c + 1) (omega arith) (omega arith) ∙ ap (flown plan p tile m) e

    two_is : (h : Momenta) → whole plan p (from tile c) h (count - c) ≡ flown plan p (from tile c) h (count - c - 1)
    two_is h = counted (from tile c) h (count - c) (omega arith) (omega arith)

    all_is : whole plan p tile m count ≡ flown plan p tile m (c + (count - c - 1))
    all_is = let e : count - 1 ≡ c + (count - c - 1) = omega arith in counted tile m count (omega arith) most ∙ ap (flown plan p tile m) e

    pub whole_cut : one.cursor.fate ≡ going → whole plan p tile m count ≡ joined one two
    whole_cut e = rw (two_is one.cursor.momenta, one_is, all_is) (cut plan p tile m c (count - c - 1) (rw one_is at e))

    pub whole_cut_refused : (number place : ℕ) → one.cursor.fate ≡ Err (refusal number place) → whole plan p tile m count ≡ one
    whole_cut_refused number place e = rw (one_is, all_is) (cut_refused plan p tile m c (count - c - 1) number place (rw one_is at e))

  -- ---- the same of tiles as rows of four numbers: the first half has the rows up to c, the second those from c on
  module _ (tiles : List (List Float)) (m : Momenta) (c : ℕ) where
    pub first_rows : whole plan p (tile_of (take (c + 1) tiles)) m (c + 1) ≡ whole plan p (tile_of tiles) m (c + 1)
    first_rows = whole_ext (tile_of (take (c + 1) tiles)) (tile_of tiles) m (c + 1) (λ i h. ap quat_of (get_or-take (c + 1) tiles i [] h))

    pub second_rows : (h : Momenta) (count : ℕ) → whole plan p (tile_of (drop c tiles)) h count ≡ whole plan p (from (tile_of tiles) c) h count
    second_rows h count = whole_ext (tile_of (drop c tiles)) (from (tile_of tiles) c) h count (λ i k. ap quat_of (get_or-drop c tiles i []))
