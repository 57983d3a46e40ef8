-- The same bits are the same float, and of two values of the format the test is the one of their bit patterns. Assumes nothing.
use Rattle.std.specs.Prelude.{ℕ, ◌*◌, ◌≡◌, refl, Bool, true, false, not, ◌&&◌, T, eqb, ℤ, pos, negsuc, Float}
use Rattle.std.proofs.Common.{arith, sym, ap, ◌∙◌, eqb-true, eq-eqb}
use Rattle.std.specs.Bool.{beq}
use Rattle.std.specs.Float.{nan, inf, fin, binary64}
use Rattle.std.specs.Float.Ieee.{of_bits, to_bits, fits, eq, ne, is_nan, up, down}
use Rattle.std.specs.Float.Ieee.Bits.{of_bits-to_bits}
use Rattle.float_bits.specs.Bits.{same_exponent, same_bits}

pub both : (a b : Bool) → a && b ≡ true → (a ≡ true) × (b ≡ true)
both true b e = (refl, e)
both false b e = let z : true ≡ false = cc in (cc, cc)

sign_is : (s t : Bool) → beq s t ≡ true → s ≡ t
sign_is true true e = refl
sign_is true false e = sym e
sign_is false true e = e
sign_is false false e = refl

sign_self : (s : Bool) → beq s s ≡ true
sign_self true = refl
sign_self false = refl

exponent_is : (e d : ℤ) → same_exponent e d ≡ true → e ≡ d
exponent_is (pos a) (pos b) h = ap pos (eqb-true a b h)
exponent_is (pos a) (negsuc b) h = let z : true ≡ false = cc in cc
exponent_is (negsuc a) (pos b) h = let z : true ≡ false = cc in cc
exponent_is (negsuc a) (negsuc b) h = ap negsuc (eqb-true a b h)

exponent_self : (e : ℤ) → same_exponent e e ≡ true
exponent_self (pos a) = eq-eqb a a refl
exponent_self (negsuc a) = eq-eqb a a refl

-- the same bits: the same float
pub same_is : (x y : Float) → same_bits x y ≡ true → x ≡ y
same_is nan nan h = refl
same_is nan (inf t) h = let z : true ≡ false = cc in cc
same_is nan (fin t n d) h = let z : true ≡ false = cc in cc
same_is (inf s) nan h = let z : true ≡ false = cc in cc
same_is (inf s) (inf t) h = ap inf (sign_is s t h)
same_is (inf s) (fin t n d) h = let z : true ≡ false = cc in cc
same_is (fin s m e) nan h = let z : true ≡ false = cc in cc
same_is (fin s m e) (inf t) h = let z : true ≡ false = cc in cc
same_is (fin s m e) (fin t n d) h =
    let a = both (beq s t) (eqb m n && same_exponent e d) h in
    let b = both (eqb m n) (same_exponent e d) a.1 in
    rw (sign_is s t a.0, eqb-true m n b.0, exponent_is e d b.1) refl

-- a float has its own bits
pub same_self : (x : Float) → same_bits x x ≡ true
same_self nan = refl
same_self (inf s) = sign_self s
same_self (fin s m e) = rw (sign_self s, eq-eqb m m refl, exponent_self e) refl

tests : (a b : Bool) → (a ≡ true → b ≡ true) → (b ≡ true → a ≡ true) → a ≡ b
tests true b f g = sym (f refl)
tests false true f g = g refl
tests false false f g = refl

-- of two values of the format the patterns decide
pub same_patterns : (x y : Float) → T (fits binary64 x) → T (fits binary64 y) → eqb (to_bits binary64 x) (to_bits binary64 y) ≡ same_bits x y
same_patterns x y F G =
    tests (eqb (to_bits binary64 x) (to_bits binary64 y)) (same_bits x y)
    (λ e. let is : x ≡ y = sym (of_bits-to_bits binary64 x F) ∙ ap (of_bits binary64) (eqb-true (to_bits binary64 x) (to_bits binary64 y) e) ∙ of_bits-to_bits binary64 y G in rw is (same_self y))
    (λ e. rw (same_is x y e) (eq-eqb (to_bits binary64 y) (to_bits binary64 y) refl))

-- ---- the code's steps
-- a float that is not equal to itself is the NaN
unequal : (x : Float) → ne x x ≡ true → x ≡ nan
unfolding ne eq
unequal nan h = refl
unequal (inf s) h = let h' = simp (sign_self s) at h in let z : ◌≡◌ {A = ℕ} 0 1 = cc in absurd (omega arith)
unequal (fin s m e) h = let h' = simp (eq-eqb (m * up e * down e) (m * up e * down e) refl, sign_self s) at h in let z : ◌≡◌ {A = ℕ} 0 1 = cc in absurd (omega arith)

pub no_nan : (x : Float) → ne x x ≡ false → T (not (is_nan x))
unfolding ne eq is_nan
no_nan nan h = let z : ◌≡◌ {A = ℕ} 0 1 = cc in absurd (omega arith)
no_nan (inf s) h = tt
no_nan (fin s m e) h = tt

nan_beside : (y : Float) → ne y y ≡ same_bits nan y
unfolding ne eq
nan_beside nan = refl
nan_beside (inf s) = simp (sign_self s)
nan_beside (fin s m e) = simp (eq-eqb (m * up e * down e) (m * up e * down e) refl, sign_self s)

nan_differs : (x : Float) → ne x x ≡ false → false ≡ same_bits x nan
unfolding ne eq
nan_differs nan h = let z : ◌≡◌ {A = ℕ} 0 1 = cc in absurd (omega arith)
nan_differs (inf s) h = refl
nan_differs (fin s m e) h = refl

-- beside a NaN only a NaN is the same
pub first_nan : (x y : Float) → ne x x ≡ true → ne y y ≡ same_bits x y
first_nan x y h = rw (unequal x h) (nan_beside y)

pub second_nan : (x y : Float) → ne x x ≡ false → ne y y ≡ true → false ≡ same_bits x y
second_nan x y h k = rw (unequal y k) (nan_differs x h)
