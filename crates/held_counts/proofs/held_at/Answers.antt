use borrow.Author.Rules.{rules}
use Rattle.std.proofs.Common.{arith}
use Rattle.common.specs.IterLaws.{iter_none, iter_next}
use Rattle.held_counts.specs.Counts as Counts
use Rattle.held_counts.specs.CountLaws.{count_most}
use Rattle.held_counts.proofs.held_at.Goals as goal

pub loop-k-init : goal.loop-k-init
loop-k-init c = iter_none _ _

pub loop-k-preserved : goal.loop-k-preserved
loop-k-preserved c = iter_next _ _ _ c.loop-k.invariant c.counted-count.ensures

pub returns : goal.returns
unfolding Counts.held_at
returns c = search rules

pub counted-count-requires : goal.counted-count-requires
counted-count-requires c =
    omega (arith, c.loop-k.invariant, count_most c.args.limit c.args.n c.args.z.now c.args.i c.loop-k.k)
