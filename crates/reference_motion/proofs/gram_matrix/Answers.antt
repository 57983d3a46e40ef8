use Rattle.std.proofs.Common.{◌≡◌, refl, arith}
use Rattle.std.specs.Float.Ieee.{of_bits}
use Rattle.common.specs.IterLaws.{iter_none, iter_next}
use Rattle.reference_motion.specs.Momenta.{gram_matrix}
use Rattle.reference_motion.proofs.gram_matrix.Goals as goal

pub loop-i-init : goal.loop-i-init
loop-i-init c = (refl, iter_none _ _)

pub loop-i-preserved : goal.loop-i-preserved
loop-i-preserved c = (refl, iter_next _ _ _ c.loop-i.invariant.1 refl)

pub returns : goal.returns
unfolding gram_matrix of_bits
returns c = let e : c.loop-i.i ≡ c.args.n = omega arith in rw e at c.loop-i.invariant.1
