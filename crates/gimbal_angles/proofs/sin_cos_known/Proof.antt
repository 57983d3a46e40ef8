-- `gimbal_angles::sin_cos_known` meets its contract: an angle with the same bits is the same, and the table is right there (`looked_up`).
use Prim.Native.Nat.{◌<◌}
use mathlib.Core.Path.{◌≡◌, sym, ◌∙◌}
use native.Mathlib.Omega.{arith}
use lib.Dec.{eqb, ltb}
use lib.ListN.{length}
use Rattle.float_bits.specs.BitLaws.{both, same_is}
use Rattle.gimbal_angles.specs.KnownLaws.{looked_up}
use borrow.Author.Tests.{eqb-true, ltb-true}
use borrow.Author.Rules.{rules}
use Rattle.gimbal_angles.proofs.sin_cos_known.Statement.{statement}
use Rattle.gimbal_angles.proofs.sin_cos_known.Tie as tie

abbrev start : tie.Then-lut-k → tie.Start
start c = c.before.before

-- the table has the step
long : (c : tie.Then-lut-k) → length (start c).args.lut.now ≡ 192
long c = eqb-true _ _ (both _ (ltb (start c).args.k 16) c.if-lut-k.true).0

early : (c : tie.Then-lut-k) → (start c).args.k < 16
early c = ltb-true _ _ (both (eqb (length (start c).args.lut.now) 192) _ c.if-lut-k.true).1

mul-i : tie.Need-overflow_mul-i
mul-i c = omega (arith, early c)

mul-i-2 : tie.Need-overflow_mul-i-then-lut-k
mul-i-2 c = omega (arith, (start c).requires.0)

add-i : tie.Need-overflow_add-i
add-i c = omega (arith, early c, (start c).requires.0)

mul-same-bits : tie.Need-offset_bounds-lut-i
mul-same-bits c = omega (arith, early c, (start c).requires.0)

shared-slice-read-same-bits : tie.Need-bounds-lut-i
shared-slice-read-same-bits c = let t = c.before in omega (arith, early t, long t, (start t).requires.0)

add-t15 : tie.Need-overflow_add-result
add-t15 c = let t = c.before.before.before in omega (arith, early t, (start t).requires.0)

mul-t16 : tie.Need-offset_bounds-lut-i-then-same_bits
mul-t16 c = let t = c.before.before.before in omega (arith, early t, (start t).requires.0)

shared-slice-read-t18 : tie.Need-bounds-lut-i-then-same_bits
shared-slice-read-t18 c = let t = c.before.before.before.before in omega (arith, early t, long t, (start t).requires.0)

add-t19 : tie.Need-overflow_add-result-then-same_bits
add-t19 c = let t = c.before.before.before.before in omega (arith, early t, (start t).requires.0)

mul-t20 : tie.Need-offset_bounds-lut-i-then-same_bits-2
mul-t20 c = let t = c.before.before.before.before in omega (arith, early t, (start t).requires.0)

shared-slice-read-t22 : tie.Need-bounds-lut-i-then-same_bits-2
shared-slice-read-t22 c = let t = c.before.before.before.before.before in omega (arith, early t, long t, (start t).requires.0)

returns : tie.Need-returns-then-same_bits
returns c =
    let test = c.before.before in
    let t = test.before.before.before in
    let a = (start t).args in
    looked_up a.lut.now a.k a.g a.x (start t).requires.1 (long t) (early t) (start t).requires.0 (same_is _ _ (sym c.same_bits.ensures ∙ c.if-same_bits.true))

pub sin_cos_known_spec : {M : Type 1} → statement M
sin_cos_known_spec =
    tie.close
    (tie.spec
    mul-i
    mul-i-2
    add-i
    mul-same-bits
    shared-slice-read-same-bits
    (λ c κs. search rules)
    add-t15
    mul-t16
    shared-slice-read-t18
    add-t19
    mul-t20
    shared-slice-read-t22
    returns
    (λ c κs. search rules)
    (λ c. search rules))
