-- What a sized map's counts are bounded by. Assumes nothing.
use Rattle.std.specs.Prelude.{◌≤◌, ◌≡◌, refl, Bool, true, false, ◌&&◌, Option, Some, None}
use Rattle.std.proofs.Common.{arith, leb-true}
use Rattle.actuators.specs.declared.ActuatorMap.{ActuatorMap}
use Rattle.actuators.specs.Maps.{is_sized, gimbals}
use Rattle.actuators.specs.declared.CmgPyramid.{CmgPyramid}

both : (a b : Bool) → a && b ≡ true → (a ≡ true) × (b ≡ true)
both true true e = (refl, refl)
both true false e = (refl, e)
both false b e = let z : true ≡ false = cc in (cc, cc)

-- the counts of a sized map
pub sized_counts : (m : ActuatorMap) → is_sized m ≡ true → (m.wheel_count ≤ 8) × (m.thruster_count ≤ 12)
unfolding is_sized
sized_counts m e = let p = both _ _ e in (leb-true _ _ p.0, leb-true _ _ p.1)

-- a row has at most four gimbal rates
pub gimbals_most : (c : Option CmgPyramid) → gimbals c ≤ 4
gimbals_most None = omega arith
gimbals_most (Some p) = omega arith
