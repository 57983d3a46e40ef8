use borrow.Author.Rules.{rules}
use Rattle.common.specs.IterLaws.{iter_none, iter_next}
use Rattle.held_counts.specs.Counts as Counts
use Rattle.held_counts.proofs.held_counts.Goals as goal

pub loop-i-init : goal.loop-i-init
loop-i-init c = (search rules, iter_none _ _)

pub loop-i-preserved : goal.loop-i-preserved
loop-i-preserved c =
    (search rules, iter_next _ _ _ c.loop-i.invariant.1 (rw (c.held_at.ensures, c.limit_in.ensures, ← c.control_dim-n.ensures)))

pub returns : goal.returns
unfolding Counts.held_counts
returns c = rw (← c.control_dim-n.ensures) (search rules)
