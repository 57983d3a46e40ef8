use Rattle.reference_motion.specs.Momenta as Momenta
use Rattle.reference_motion.proofs.sample_at.Goals as goal

pub returns-in_default : goal.returns-in_default
unfolding Momenta.sample_at
returns-in_default c = rw (← c.rotation_at.ensures, c.in_default.is, c.acceleration_at-a.ensures, c.rate_at-w.ensures)

pub returns : goal.returns
unfolding Momenta.sample_at
returns c = rw (← c.rotation_at.ensures, c.in-Some.is, c.momenta_at-h.ensures, c.shape.ensures, c.mul.ensures, c.acceleration_at-a.ensures, c.rate_at-w.ensures)
