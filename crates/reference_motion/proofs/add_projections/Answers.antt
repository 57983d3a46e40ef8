use Rattle.std.proofs.Common.{◌≡◌, refl, ◌∙◌, length-set, arith, rules}
use Rattle.common.specs.IterLaws.{iter_none, iter_next}
use Rattle.reference_motion.specs.Momenta.{add_projections}
use Rattle.reference_motion.proofs.add_projections.Goals as goal

pub loop-i-init : goal.loop-i-init
loop-i-init c = (search rules, iter_none _ _)

pub loop-i-preserved : goal.loop-i-preserved
loop-i-preserved c = (length-set _ _ _ ∙ c.loop-i.invariant.0, iter_next _ _ _ c.loop-i.invariant.1 refl)

pub returns : goal.returns
unfolding add_projections
returns c = let e : c.loop-i.i ≡ c.args.n = omega arith in rw e at c.loop-i.invariant.1
