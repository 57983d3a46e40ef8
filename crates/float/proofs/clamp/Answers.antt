-- Three cases by two comparisons, each closed by a lemma of `Arms`.
use Rattle.std.proofs.Common.{rules}
use Rattle.float.proofs.Arms.{arms}
use Rattle.float.proofs.clamp.Goals as goal

pub returns-then-x-low : goal.returns-then-x-low
returns-then-x-low c = search (arms, rules)

pub returns-then-x-high : goal.returns-then-x-high
returns-then-x-high c = search (arms, rules)

pub returns-else-x-high : goal.returns-else-x-high
returns-else-x-high c = search (arms, rules)
