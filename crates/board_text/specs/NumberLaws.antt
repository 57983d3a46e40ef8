-- A whole number that is printed in decimal is read as itself, so that different numbers are printed differently. Assumes nothing.
use Rattle.std.specs.Prelude.{ℕ, zero, suc, ◌+◌, ◌-◌, ◌*◌, ◌/◌, ◌%◌, ◌^◌, ◌≤◌, ◌<◌, ◌≡◌, refl, Bool, true, false, cond, List, [], ◌∷◌, ◌++◌, ltb, eqb, ℤ, pos, negsuc, neg_ℤ, nat_abs}
use Rattle.std.proofs.Common.{ap, ◌∙◌, div-lt_iff_lt-mul, div-add-mod', arith, ne_eqb, lit≤, SFits}
use Rattle.std.proofs.Math.Numerals.{unary_clauses}
use Rattle.std.specs.Int.Signed.{nat_abs-le}
use Rattle.std.specs.Int.{w32}
use Rattle.text_writer.specs.Texts.{digits, whole}

-- the count that digits stand for, after one that was read
abbrev pub count_from : ℕ → List ℕ → ℕ
count_from a [] = a
count_from a (b ∷ s) = count_from (a * 10 + (b - 48)) s

-- the whole number of a word: a minus, then digits; or digits
abbrev pub whole_of : List ℕ → ℤ
whole_of [] = pos 0
whole_of (b ∷ s) = cond (eqb b 45) (neg_ℤ (pos (count_from 0 s))) (pos (count_from 0 (b ∷ s)))

one_more : (s : List ℕ) (a b : ℕ) → count_from a (s ++ b ∷ []) ≡ count_from a s * 10 + (b - 48)
one_more [] a b = refl
one_more (c ∷ s) a b = one_more s (a * 10 + (c - 48)) b

count_digits : (places n : ℕ) → n < 10 ^ places → count_from 0 (digits places n) ≡ n
unfolding digits
count_digits zero n h = omega arith
count_digits (suc places) n h = by (ltb n 10) (λ l. count_digits places (n / 10) l)
  where
    by : (b : Bool) → (n / 10 < 10 ^ places → count_from 0 (digits places (n / 10)) ≡ n / 10) → count_from 0 (cond b ((48 + n) ∷ []) (digits places (n / 10) ++ (48 + n % 10) ∷ [])) ≡ n
    by true r = omega arith
    by false r =
        let l : n / 10 < 10 ^ places = (div-lt_iff_lt-mul {k = 10} {x = n} {y = 10 ^ places} (lit≤ tt)).1 (simp unary_clauses at h) in
        let d : n / 10 * 10 + n % 10 ≡ n = div-add-mod' n 10 in
        one_more (digits places (n / 10)) 0 (48 + n % 10) ∙ ap (λ (x : ℕ). x * 10 + (48 + n % 10 - 48)) (r l) ∙ omega arith

-- digits begin with a digit, so with no minus
abbrev Headed : List ℕ → Type 0
Headed [] = ⊥
Headed (b ∷ s) = 48 ≤ b

headed_append : (s t : List ℕ) → Headed s → Headed (s ++ t)
headed_append [] t h = absurd h
headed_append (b ∷ s) t h = h

headed : (places n : ℕ) → Headed (digits (suc places) n)
unfolding digits
headed zero n = by (ltb n 10)
  where
    by : (b : Bool) → Headed (cond b ((48 + n) ∷ []) ((48 + n % 10) ∷ []))
    by true = omega arith
    by false = omega arith
headed (suc places) n = by (ltb n 10) (headed_append (digits (suc places) (n / 10)) ((48 + n % 10) ∷ []) (headed places (n / 10)))
  where
    by : (b : Bool) → Headed (digits (suc places) (n / 10) ++ (48 + n % 10) ∷ []) → Headed (cond b ((48 + n) ∷ []) (digits (suc places) (n / 10) ++ (48 + n % 10) ∷ []))
    by true h = omega arith
    by false h = h

plain : (s : List ℕ) → Headed s → whole_of s ≡ pos (count_from 0 s)
plain [] h = absurd h
plain (b ∷ s) h = rw (ne_eqb b 45 (λ e. omega arith))

-- a number of up to 20 digits is read as itself
pub read_again : (z : ℤ) → nat_abs z < 10 ^ 20 → whole_of (whole z) ≡ z
read_again (pos n) h = plain (digits 20 n) (headed 19 n) ∙ ap pos (count_digits 20 n h)
read_again (negsuc n) h = ap (λ (k : ℕ). neg_ℤ (pos k)) (count_digits 20 (suc n) h)

-- so is every number of 32 bits
pub number_again : (z : ℤ) → SFits w32 z → whole_of (whole z) ≡ z
number_again z h = let l = nat_abs-le z h.sfits in read_again z (omega arith)
