use Rattle.reference_motion.proofs.controls.Goals as goal
use Rattle.reference_motion.specs.CaseLaws.{controls_wheels, controls_thrusts}

pub returns-then-r : goal.returns-then-r
returns-then-r c = rw (c.wheel_torques.ensures, c.to_float.ensures) (controls_wheels _ _ _ _ c.if-r.true)

pub returns-else-r : goal.returns-else-r
returns-else-r c = rw (c.thrusts_at.ensures, c.mid_fraction.ensures) (controls_thrusts _ _ _ _ c.if-r.false)
