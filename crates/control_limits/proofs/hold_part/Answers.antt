use borrow.Author.Rules.{rules}
use Rattle.std.proofs.Common.{length-set}
use Rattle.common.specs.IterLaws.{iter_none, iter_next}
use Rattle.control_limits.proofs.hold_part.Goals as goal

pub loop-i-init : goal.loop-i-init
loop-i-init c = (search rules, iter_none _ _)

pub loop-i-preserved : goal.loop-i-preserved
loop-i-preserved c =
    (simp length-set (search rules), iter_next _ _ _ c.loop-i.invariant.1 (rw c.hold.ensures))
