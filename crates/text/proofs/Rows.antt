-- Facts of the definitions of specs/Lines.antt that the proofs of the lines' reader cite. Assumes nothing.
use Prim.Native.Nat.{ℕ, zero, suc, ◌+◌, ◌-◌, ◌≤◌, ◌<◌}
use native.Mathlib.Omega.{arith}
use native.Mathlib.Numerals.{add-one}
use native.Mathlib.Nat.{add-zero, le_of_lt, sub-zero}
use mathlib.Core.Path.{◌≡◌, refl, sym, ap, ◌∙◌}
use mathlib.Core.List.{List, [], ◌∷◌}
use mathlib.Core.Bool.{Bool, true, false, ◌&&◌}
use lib.Dec.{ltb, eqb}
use lib.ListN.{set, length, get_or, drop, drop_of_length-le, get_or-eq_default}
use lib.Seq.{drop-cons}
use Rattle.std.specs.List.{starts_with}
use Rattle.std.proofs.lemmas.Bool.Decides.{nat_tests}
use Rattle.std.proofs.str.Laws.{order}
use Rattle.std.specs.Prelude.{◌⊎◌, take}
use Rattle.std.proofs.lemmas.List.{take_rest, get_or-drop, length-take, length-drop}
use Rattle.std.proofs.Math.Logic.{inl, inr}
use lib.Ieee as Ieee
use borrow.Author.Tests.{lt-ltb, le-ltb, le-leb, lt-leb, eq-eqb, ne_eqb}
use Rattle.text.specs.declared.lines.Row.{Row}
use Rattle.std.specs.Prelude.{Option, Some, None}
use Rattle.text.specs.Forms.{past, past_blanks, loose, PastIs}
use Rattle.text.specs.Lines.{is_at, IsAt, word_at, WordIs, row_from, row_at, no_floats, with_float}

suc_sub_one : (k : ℕ) → suc k - 1 ≡ k
suc_sub_one k = omega arith

eqb_comm : (a b : ℕ) → eqb a b ≡ eqb b a
eqb_comm a b = grind (arith, nat_tests)

and-false : (b : Bool) → b && false ≡ false
and-false true = refl
and-false false = refl

-- ---- words

-- the bytes behind a position begin with w
is_at_starts : (s w : List ℕ) (at : ℕ) → at ≤ length s → starts_with eqb (drop at s) w ≡ is_at s at w
unfolding is_at
is_at_starts s [] at h = sym (le-leb _ _ h)
is_at_starts s (b ∷ w) at h = go (λ (l : at + 1 ≤ length s). is_at_starts s w (at + 1) l) (order at (length s))
  where
    go : (at + 1 ≤ length s → starts_with eqb (drop (at + 1) s) w ≡ is_at s (at + 1) w) → (at < length s) ⊎ (length s ≤ at)
        → starts_with eqb (drop at s) (b ∷ w) ≡ ltb at (length s) && (eqb (get_or s at 0) b && is_at s (at + 1) w)
    go ih (inl l) = simp (lt-ltb _ _ l) (rw (drop-cons s at 0, ← add-one at) (rw (eqb_comm b (get_or s at 0), ih (omega arith)) refl))
    go ih (inr l) = simp (le-ltb _ _ l) (rw (drop_of_length-le s l) refl)

pub is_at_of : (s w : List ℕ) (at : ℕ) (r : Bool) → at ≤ length s → (r ≡ true → length w ≤ length (take (length s - at) (drop at s)))
    → r ≡ starts_with eqb (take (length s - at) (drop at s)) w → IsAt s at w r
is_at_of s w at r h b e = record {
  is = e ∙ ap (λ (l : List ℕ). starts_with eqb l w) (take_rest s at) ∙ is_at_starts s w at h;
  within = λ t. omega (arith, b t, length-take (length s - at) (drop at s), length-drop at s);
}

pub is_at_past : (s w : List ℕ) (at : ℕ) → length s < at → is_at s at w ≡ false
unfolding is_at
is_at_past s [] at h = lt-leb _ _ h
is_at_past s (b ∷ w) at h = simp (le-ltb at (length s) (le_of_lt h))

pub is_not : (s : List ℕ) (at : ℕ) (w : List ℕ) → is_at s at w ≡ false → IsAt s at w false
is_not s at w e = record { is = sym e; within = λ (z : false ≡ true). absurd (no z) }
  where
    no : false ≡ true → ⊥
    no z = let y : ◌≡◌ {A = ℕ} 0 1 = cc in omega arith

past_none : (s : List ℕ) (n at : ℕ) → (get_or s at 0 ≡ 32 → ⊥) → past s n at ≡ at
unfolding past
past_none s zero at h = refl
past_none s (suc n) at h = simp (ne_eqb _ _ h)

past_next : (s : List ℕ) (n i : ℕ) → get_or s i 0 ≡ 32 → past s (suc n) i ≡ past s n (i + 1)
unfolding past
past_next s n i h = simp (eq-eqb _ _ h)

-- m blanks, and then none
past_run : (s : List ℕ) (m n at : ℕ) → m ≤ n → ((k : ℕ) → k < m → get_or s (at + k) 0 ≡ 32) → (get_or s (at + m) 0 ≡ 32 → ⊥) → past s n at ≡ at + m
past_run s zero n at l b e = rw add-zero (past_none s n at (λ h. e (rw add-zero h)))
past_run s (suc m) zero at l b e = absurd (omega arith)
past_run s (suc m) (suc n) at l b e =
    let one : (k : ℕ) → at + 1 + k ≡ at + suc k = λ k. omega arith in
    past_next s n at (rw add-zero at (b 0 (omega arith)))
    ∙ past_run s m n (at + 1) (omega arith) (λ k h. rw (one k) (b (suc k) (omega arith))) (λ h. e (rw (← one m) h))
    ∙ one m

-- what stands behind a position, as the slice there has it
behind : (s : List ℕ) (at k : ℕ) → get_or (take (length s - at) (drop at s)) k 0 ≡ get_or s (at + k) 0
behind s at k = rw (take_rest s at) (get_or-drop at s k 0)

module _ (s : List ℕ) (at : ℕ) where
  pub past_found : (m : ℕ) → m < length (take (length s - at) (drop at s)) → ((k : ℕ) → k < m → get_or (take (length s - at) (drop at s)) k 0 ≡ 32)
      → (get_or (take (length s - at) (drop at s)) m 0 ≡ 32 → ⊥) → PastIs s at (at + m)
  unfolding past_blanks
  past_found m l b e =
      let h : at + m < length s = omega (arith, length-take (length s - at) (drop at s), length-drop at s) in
      record { is = sym (past_run s m (length s) at (omega arith) (λ k i. rw (← behind s at k) (b k i)) (λ i. e (rw (behind s at m) i))); within = omega arith }

  pub past_all : at ≤ length s → ((k : ℕ) → k < length (take (length s - at) (drop at s)) → get_or (take (length s - at) (drop at s)) k 0 ≡ 32) → PastIs s at (length s)
  unfolding past_blanks
  past_all h b =
      let m = length s - at in
      let end : at + m ≡ length s = omega arith in
      let n : length (take m (drop at s)) ≡ m = omega (arith, length-take m (drop at s), length-drop at s) in
      let none : get_or s (at + m) 0 ≡ 0 = get_or-eq_default s 0 (omega arith) in
      record { is = sym (past_run s m (length s) at (omega arith) (λ k i. rw (← behind s at k) (b k (omega arith))) (λ i. omega arith) ∙ end); within = omega arith }

-- ---- rows

module _ (s : List ℕ) (r : Row) where
  pub row_step : (n : ℕ) → 0 < n → (x : Ieee.Float) (j : ℕ) → word_at loose s r.at ≡ Some (x, j) → row_from loose s n r ≡ row_from loose s (n - 1) (with_float r x j)
  unfolding row_from
  row_step zero p x j e = absurd (omega arith)
  row_step (suc n) p x j e = simp (e, suc_sub_one)

  pub row_stop : (n : ℕ) → word_at loose s r.at ≡ None → row_from loose s n r ≡ r
  unfolding row_from
  row_stop zero e = refl
  row_stop (suc n) e = simp e

  pub row_end : (n : ℕ) → n ≡ 0 → row_from loose s n r ≡ r
  unfolding row_from
  row_end n e = rw e

-- the row with one number more, as the code makes it
pub with_float_law : (r : Row) (k : ℕ) (v : List Ieee.Float) (x : Ieee.Float) (j : ℕ) → r.count ≡ k → v ≡ set r.v k x → record { at = j; count = k + 1; v = v; limit = Some x } ≡ with_float r x j
with_float_law r k v x j e f = rw (f, ← e)

pub row_start : (s : List ℕ) (at : ℕ) → row_at loose s at ≡ row_from loose s (length s - 0) (no_floats at)
unfolding row_at
row_start s at = rw sub-zero

pub word_within : (s : List ℕ) (at : ℕ) (x : Ieee.Float) (j : ℕ) (r : Option (Ieee.Float × ℕ)) → WordIs s at r → r ≡ Some (x, j) → j ≤ length s
word_within s at x j r h e = rw e at h.within
