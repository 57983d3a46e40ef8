-- Three cases by two comparisons, each closed by a lemma of `Arms`.
use Rattle.std.proofs.Common.{rules}
use Rattle.float.proofs.Arms.{arms}
use Rattle.float.proofs.abs.Goals as goal

pub returns-then-x : goal.returns-then-x
returns-then-x c = search (arms, rules)

pub returns-then-x-2 : goal.returns-then-x-2
returns-then-x-2 c = search (arms, rules)

pub returns-else-x-2 : goal.returns-else-x-2
returns-else-x-2 c = search (arms, rules)
