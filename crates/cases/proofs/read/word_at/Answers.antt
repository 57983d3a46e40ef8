-- `read::word_at` meets its contract: a turn of the loop is one of the definition. Assumes nothing.
use Rattle.std.proofs.Common.{rules}
use Rattle.common.specs.IterLaws.{iter_none, iter_next}
use Rattle.cases.specs.Words.{word_at}
use Rattle.cases.proofs.read.word_at.Goals as goal

pub loop-init : goal.loop-init
loop-init c = iter_none _ _

pub loop-preserved : goal.loop-preserved
loop-preserved c = iter_next _ _ _ c.loop.invariant c.taken-w.ensures

pub returns : goal.returns
unfolding word_at
returns c = search rules
