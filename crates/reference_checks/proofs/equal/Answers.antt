use Rattle.std.proofs.Common.{◌≡◌, refl, arith}
use Rattle.common.specs.IterLaws.{iter_none, iter_next}
use Rattle.reference_checks.specs.Checks as Checks
use Rattle.reference_checks.proofs.equal.Goals as goal

pub loop-i-init : goal.loop-i-init
loop-i-init c = iter_none _ _

pub loop-i-preserved : goal.loop-i-preserved
loop-i-preserved c = iter_next _ _ _ c.loop-i.invariant refl

pub returns : goal.returns
unfolding Checks.equal
returns c = let e : c.loop-i.i ≡ c.args.n = omega arith in rw e at c.loop-i.invariant
