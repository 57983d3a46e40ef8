-- What the reader's definitions come to, case by case. Assumes nothing.
use Rattle.std.specs.Prelude.{ℕ, ◌+◌, ◌*◌, ◌<◌, ◌≤◌, ◌≡◌, refl, Bool, true, false, List, Option, None, Some, IfSome, Result, Ok, Err, ltb, eqb, length, get_or, set}
use Rattle.std.proofs.Common.{lt_of_not-le, sym, ◌∙◌}
use native.Mathlib.Omega.{arith}
use Rattle.text.specs.Bytes.{bytes}
use Rattle.text.specs.Lines.{is_at}
use Rattle.std.proofs.Math.ListN.{get_or-eq_default}
use borrow.Author.Tests.{lt-ltb, le-ltb, eq-eqb, ne_eqb}
use Rattle.text.specs.Hex.{digit}
use Rattle.text.specs.DigitLaws.{digit_within}
use Rattle.order_text.specs.declared.reading.Number.{Number}
use Rattle.order_text.specs.declared.reading.Word.{Word}
use Rattle.order_text.specs.declared.reading.Row.{Row}
use Rattle.order_text.specs.declared.reading.Width.{Width}
use Rattle.order_text.specs.TileTexts.{most, digit_turn, number_at, word_at, row_turn, row_at, tail, line_at, table_turn, table_at, width_turn, width_at, budget_at, refused, rows_of, read_tiles, NumberIs, WordIs, RowIs}
use Rattle.common.specs.Refusals.{going}

-- ---- one more digit d
module _ (s : List ℕ) (c : Number) (w : c.at ≤ length s) (l : c.v ≤ most) where
  pub digit_shut : c.going ≡ false → NumberIs s (digit_turn s c) c
  unfolding digit_turn
  digit_shut e = record { is = rw e; within = w; low = l }

  module _ (e : c.going ≡ true) (d : ℕ) (f : d ≡ digit (get_or s c.at 0)) where
    pub digit_none : 10 ≤ d → NumberIs s (digit_turn s c) (record { going = false; at = c.at; v = c.v })
    unfolding digit_turn
    digit_none h = record { is = rw (e, le-ltb _ _ (rw f at h)); within = w; low = l }

    inside : d < 10 → c.at + 1 ≤ length s
    inside h = let z : digit (get_or s c.at 0) < 16 = omega (arith, f) in omega (arith, digit_within s c.at z)

    pub digit_capped : d < 10 → most < c.v * 10 + d → NumberIs s (digit_turn s c) (record { going = true; at = c.at + 1; v = most })
    unfolding digit_turn
    digit_capped h g = record { is = rw (e, lt-ltb _ _ (rw f at h), lt-ltb _ _ (rw f at g)); within = inside h; low = omega arith }

    pub digit_more : d < 10 → c.v * 10 + d ≤ most → NumberIs s (digit_turn s c) (record { going = true; at = c.at + 1; v = c.v * 10 + d })
    unfolding digit_turn
    digit_more h g = record { is = rw (e, lt-ltb _ _ (rw f at h), le-ltb _ _ (rw f at g)) (rw f); within = inside h; low = g }

-- ---- a word

-- where a blank stands, the text has not ended
pub blank_within : (s : List ℕ) (at : ℕ) → get_or s at 0 ≡ 32 → at < length s
blank_within s at e = lt_of_not-le (λ (g : length s ≤ at). let z : get_or s at 0 ≡ 0 = get_or-eq_default s 0 g in omega arith)

module _ (s : List ℕ) (at : ℕ) where
  pub word_none : (get_or s at 0 ≡ 32 → ⊥) → WordIs s at None
  unfolding word_at
  word_none n = record { is = rw (ne_eqb _ _ n); within = tt }

  module _ (b : get_or s at 0 ≡ 32) {c : Number} (i : NumberIs s (number_at s (at + 1)) c) where
    pub word_empty : c.at ≡ at + 1 → WordIs s at None
    unfolding word_at
    word_empty f = record { is = rw (eq-eqb _ _ b, ← i.is, eq-eqb _ _ f); within = tt }

    pub word_some : (c.at ≡ at + 1 → ⊥) → WordIs s at (Some (record { at = c.at; v = c.v }))
    unfolding word_at
    word_some f = record { is = rw (eq-eqb _ _ b, ← i.is, ne_eqb _ _ f); within = i.within }

-- ---- a row
pub row_shut : (s : List ℕ) (place : ℕ) → None ≡ row_turn s place None
unfolding row_turn
row_shut s place = refl

module _ (s : List ℕ) (place : ℕ) (c : Row) where
  pub row_wrong : None ≡ word_at s c.at → None ≡ row_turn s place (Some c)
  unfolding row_turn
  row_wrong f = rw (← f)

  pub row_more : {w : Word} {t : List ℕ} → Some w ≡ word_at s c.at → t ≡ set c.times place w.v → Some (record { at = w.at; times = t }) ≡ row_turn s place (Some c)
  unfolding row_turn
  row_more f g = rw (← f, g)

-- ---- a line
module _ (s : List ℕ) (at n base : ℕ) (last : Bool) (t : List ℕ) where
  pub line_none : is_at s at (bytes " (from") ≡ false → None ≡ line_at s at n base last t
  unfolding line_at
  line_none e = rw e

  module _ (e : is_at s at (bytes " (from") ≡ true) where
    pub line_wrong : None ≡ row_at s (at + 6) n base t → None ≡ line_at s at n base last t
    unfolding line_at
    line_wrong f = rw (e, ← f)

    module _ {r : Row} (i : Some r ≡ row_at s (at + 6) n base t) where
      pub line_unended : is_at s r.at (tail last) ≡ false → None ≡ line_at s at n base last t
      unfolding line_at
      line_unended g = rw (e, ← i, g)

      pub line_ended : {m : ℕ} → is_at s r.at (tail last) ≡ true → m ≡ length (tail last) → Some (record { at = r.at + m; times = r.times }) ≡ line_at s at n base last t
      unfolding line_at
      line_ended g h = rw (e, ← i, g, h)

-- ---- a row of the table
module _ (s : List ℕ) (n i : ℕ) where
  pub table_shut : (line : ℕ) → Err line ≡ table_turn s n i (Err line)
  unfolding table_turn
  table_shut line = refl

  module _ (c : Row) {last : Bool} (f : last ≡ eqb (i + 1) n) where
    pub table_wrong : None ≡ line_at s c.at n (i * n) last c.times → Err (i + 3) ≡ table_turn s n i (Ok c)
    unfolding table_turn
    table_wrong h = rw (← f, ← h)

    pub table_more : {r : Row} → Some r ≡ line_at s c.at n (i * n) last c.times → Ok r ≡ table_turn s n i (Ok c)
    unfolding table_turn
    table_more h = rw (← f, ← h)

-- ---- one more byte b of a line
module _ (s : List ℕ) (at : ℕ) (c : Width) where
  pub width_shut : c.going ≡ false → c ≡ width_turn s at c
  unfolding width_turn
  width_shut e = rw e

  module _ (e : c.going ≡ true) {b : ℕ} (f : b ≡ get_or s at 0) where
    pub width_close : b ≡ 41 → record { going = false; count = c.count } ≡ width_turn s at c
    unfolding width_turn
    width_close g = rw (e, ← f, eq-eqb b 41 g)

    pub width_blank : (b ≡ 41 → ⊥) → b ≡ 32 → record { going = true; count = c.count + 1 } ≡ width_turn s at c
    unfolding width_turn
    width_blank g h = rw (e, ← f, ne_eqb b 41 g, eq-eqb b 32 h)

    pub width_other : (b ≡ 41 → ⊥) → (b ≡ 32 → ⊥) → c ≡ width_turn s at c
    unfolding width_turn
    width_other g h = rw (e, ← f, ne_eqb b 41 g, ne_eqb b 32 h)

-- ---- line 2
module _ (s : List ℕ) where
  pub budget_none : is_at s 7 (bytes " (budget") ≡ false → None ≡ budget_at s
  unfolding budget_at
  budget_none e = rw e

  module _ (e : is_at s 7 (bytes " (budget") ≡ true) where
    pub budget_wrong : None ≡ word_at s 15 → None ≡ budget_at s
    unfolding budget_at
    budget_wrong f = rw (e, ← f)

    module _ {w : Word} (i : Some w ≡ word_at s 15) where
      pub budget_unended : is_at s w.at (bytes ")\n") ≡ false → None ≡ budget_at s
      unfolding budget_at
      budget_unended g = rw (e, ← i, g)

      pub budget_ended : is_at s w.at (bytes ")\n") ≡ true → Some (record { at = w.at + 2; v = w.v }) ≡ budget_at s
      unfolding budget_at
      budget_ended g = rw (e, ← i, g)

-- ---- the rows
module _ (s : List ℕ) (at b : ℕ) {n : ℕ} (w : n ≡ width_at s (at + 6)) where
  pub rows_none : n ≡ 0 → refused 3 ≡ rows_of s at b
  unfolding rows_of
  rows_none e = rw (← w, eq-eqb n 0 e)

  module _ (e : n ≡ 0 → ⊥) where
    pub rows_wrong : {line : ℕ} → Err line ≡ table_at s at n → refused line ≡ rows_of s at b
    unfolding rows_of
    rows_wrong f = rw (← w, ne_eqb n 0 e, ← f)

    module _ {t : Row} (f : Ok t ≡ table_at s at n) where
      pub rows_on : (t.at ≡ length s → ⊥) → refused (n + 3) ≡ rows_of s at b
      unfolding rows_of
      rows_on h = rw (← w, ne_eqb n 0 e, ← f, ne_eqb t.at (length s) h)

      pub rows_read : t.at ≡ length s → record { fate = going; tiles = n; budget = b; times = t.times } ≡ rows_of s at b
      unfolding rows_of
      rows_read h = rw (← w, ne_eqb n 0 e, ← f, eq-eqb t.at (length s) h)

-- ---- the text
module _ (s : List ℕ) where
  pub text_long : 4096 < length s → refused 0 ≡ read_tiles s
  unfolding read_tiles
  text_long h = rw (lt-ltb 4096 (length s) h)

  module _ (h : length s ≤ 4096) where
    pub text_headless : is_at s 0 (bytes "(tiles\n") ≡ false → refused 1 ≡ read_tiles s
    unfolding read_tiles
    text_headless e = rw (le-ltb 4096 (length s) h, e)

    module _ (e : is_at s 0 (bytes "(tiles\n") ≡ true) where
      pub text_budgetless : None ≡ budget_at s → refused 2 ≡ read_tiles s
      unfolding read_tiles
      text_budgetless g = rw (le-ltb 4096 (length s) h, e, ← g)

      pub text_rows : {w : Word} → Some w ≡ budget_at s → rows_of s w.at w.v ≡ read_tiles s
      unfolding read_tiles
      text_rows g = rw (le-ltb 4096 (length s) h, e, ← g)
