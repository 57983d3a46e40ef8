use Rattle.reference_motion.proofs.momenta_at.Goals as goal
use Rattle.reference_motion.specs.CaseLaws.{momenta_wheels, momenta_stay}

pub returns-then-not-r : goal.returns-then-not-r
returns-then-not-r c = momenta_stay _ _ _ _ c.if-not-r.true

pub returns : goal.returns
returns c = rw (c.allocate.ensures, c.sub3-change.ensures, c.required_momentum.ensures, c.subtract_scaled-rest.ensures) (momenta_wheels _ _ _ _ c.if-not-r.false)
