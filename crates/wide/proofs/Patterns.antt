-- Which floats are no NaN, and which patterns. Assumes nothing.
use Rattle.std.proofs.Common.{◌≡◌, ℕ, ◌^◌, ◌<◌, Bool, true, false, not, T, ltb, sym, ap, ◌∙◌, subst, true≢false, le_of_lt, mod-eq_of_lt, arith}
use lib.Arith.{le→nltb}
use lib.Ieee.{Float, nan, inf, fin, binary64, lt, is_nan, nan_bits}
use lib.Ieee.Bits.{nan_bits_above}

pub never : {A : Type 0} → false ≡ true → A
never e = absurd (true≢false (sym e))

-- a test that x is above a number passes for no NaN
pub above_no_nan : (y x : Float) → lt y x ≡ true → T (not (is_nan x))
unfolding is_nan lt
above_no_nan nan nan h = never h
above_no_nan (inf s) nan h = never h
above_no_nan (fin s m e) nan h = never h
above_no_nan y (inf s) h = tt
above_no_nan y (fin s m e) h = tt

pub no_nan_bits : (b : ℕ) → b < 0x7ff0_0000_0000_0000 → T (not (nan_bits binary64 b))
no_nan_bits b h =
    let l : b < 2 ^ 63 = omega arith in
    subst (λ (t : Bool). T (not t)) (sym (nan_bits_above binary64 b ∙ ap (ltb 0x7ff0_0000_0000_0000) (mod-eq_of_lt l))) (le→nltb 0x7ff0_0000_0000_0000 b (le_of_lt h))
