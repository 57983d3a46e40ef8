-- Tests on floats that passed or failed, as facts. Assumes nothing.
use Rattle.std.proofs.Common.{◌≡◌, ℕ, ◌≤◌, Bool, true, false, ◌&&◌, ◌||◌, T, eqb, ltb, ◌⊎◌, sym, refl, ◌∙◌, subst, inl, inr, true≢false, le_of_eq, le_of_lt, eqb→eq, ltb→lt}
use mathlib.Core.Bool.{false≢true}
use lib.Ieee.Fits.{and_l}

pub both_true : (a b : Bool) → a && b ≡ true → (a ≡ true) × (b ≡ true)
both_true true b e = (refl, e)
both_true false b e = absurd (false≢true e)

pub yes : {b : Bool} → b ≡ true → T b
yes h = subst T (sym h) tt

or_split : (a b : Bool) → T (a || b) → T a ⊎ T b
or_split true b h = inl tt
or_split false b h = inr h

pub lt_or_eq : (a b : ℕ) (r : Bool) → T (ltb a b || (eqb a b && r)) → a ≤ b
lt_or_eq a b r h = elim (or_split (ltb a b) (eqb a b && r) h) [ inl u ↦ le_of_lt (ltb→lt a b u) | inr u ↦ le_of_eq (eqb→eq a b (and_l (eqb a b) r u)) ]

pub lt_or_eq' : (a b : ℕ) (r : Bool) → T (ltb a b || (eqb b a && r)) → a ≤ b
lt_or_eq' a b r h = elim (or_split (ltb a b) (eqb b a && r) h) [ inl u ↦ le_of_lt (ltb→lt a b u) | inr u ↦ le_of_eq (sym (eqb→eq b a (and_l (eqb b a) r u))) ]

-- a test that fails, where the other passes
pub left_false : (a b : Bool) → a && b ≡ false → b ≡ true → a ≡ false
left_false true b e f = absurd (true≢false (sym f ∙ e))
left_false false b e f = refl

pub right_false : (a b : Bool) → a && b ≡ false → a ≡ true → b ≡ false
right_false true b e f = e
right_false false b e f = absurd (false≢true f)

-- the second test decides, where the first passes
pub and_yes : (a b : Bool) → a ≡ true → b ≡ a && b
and_yes true b e = refl
and_yes false b e = absurd (false≢true e)

pub and_no : (a b : Bool) → a ≡ false → false ≡ a && b
and_no true b e = absurd (true≢false e)
and_no false b e = refl
