-- geom's product, rounded after each operation, has neither law: an input for each, evaluated. Assumes nothing.
use Rattle.std.specs.Prelude.{◌≡◌, refl, ◌≢◌, not, T, Float}
use Rattle.std.proofs.Common.{subst}
use Rattle.std.specs.Float.{binary64}
use Rattle.std.specs.Float.Ieee.{add, sub, mul, eq, of_bits}
use Rattle.geom.specs.declared.Quat.{Quat}
use Rattle.geom.specs.Quats.{quat, quat_mul, dot_q}

-- a scalar
abbrev pub scalar : Float → Quat
scalar x = quat x (of_bits binary64 0) (of_bits binary64 0) (of_bits binary64 0)

-- 0.1, 0.2, 0.3
abbrev pub a : Quat
a = scalar (of_bits binary64 0x3fb9_9999_9999_999a)

abbrev pub b : Quat
b = scalar (of_bits binary64 0x3fc9_9999_9999_999a)

abbrev pub c : Quat
c = scalar (of_bits binary64 0x3fd3_3333_3333_3333)

-- ---- the two bracketings: 0.006000000000000001 and 0.006
pub left_first : quat_mul (quat_mul a b) c ≡ scalar (of_bits binary64 0x3f78_9374_bc6a_7efb)
unfolding quat_mul add sub mul of_bits
left_first = refl

pub right_first : quat_mul a (quat_mul b c) ≡ scalar (of_bits binary64 0x3f78_9374_bc6a_7efa)
unfolding quat_mul add sub mul of_bits
right_first = refl

-- THE ROUNDED PRODUCT IS NOT ASSOCIATIVE
pub rounded_not_assoc : quat_mul (quat_mul a b) c ≢ quat_mul a (quat_mul b c)
unfolding quat_mul add sub mul eq of_bits
rounded_not_assoc h = subst (λ (q : Quat). T (not (eq q.w (quat_mul a (quat_mul b c)).w))) h tt

-- ---- the squared length of a product, and the product of squared lengths: 0.0009 and 0.0009000000000000002
pub length_of_product : dot_q (quat_mul a c) (quat_mul a c) ≡ of_bits binary64 0x3f4d_7dbf_487f_cb92
unfolding quat_mul add sub mul of_bits
length_of_product = refl

pub product_of_lengths : mul binary64 (dot_q a a) (dot_q c c) ≡ of_bits binary64 0x3f4d_7dbf_487f_cb94
unfolding add mul of_bits
product_of_lengths = refl

-- ROUNDED SQUARED LENGTHS DO NOT MULTIPLY
pub rounded_not_multiply : dot_q (quat_mul a c) (quat_mul a c) ≢ mul binary64 (dot_q a a) (dot_q c c)
unfolding quat_mul add sub mul eq of_bits
rounded_not_multiply h = subst (λ (x : Float). T (not (eq x (mul binary64 (dot_q a a) (dot_q c c))))) h tt
