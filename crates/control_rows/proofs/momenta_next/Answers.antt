use borrow.Author.Rules.{rules}
use Rattle.std.proofs.Common.{refl}
use Rattle.common.specs.IterLaws.{iter_none, iter_next}
use Rattle.control_rows.specs.Parts as Parts
use Rattle.control_rows.proofs.momenta_next.Goals as goal

pub loop-i-init : goal.loop-i-init
loop-i-init c = (search rules, iter_none _ _)

pub loop-i-preserved : goal.loop-i-preserved
loop-i-preserved c = (search rules, iter_next _ _ _ c.loop-i.invariant.1 refl)

pub returns : goal.returns
unfolding Parts.momenta_next
returns c = search rules
