-- Three cases by two comparisons, a NaN being unlike itself, each closed by a lemma of `Arms`.
use Rattle.std.proofs.Common.{rules}
use Rattle.float.proofs.Arms.{arms}
use Rattle.float.proofs.min.Goals as goal

pub returns-then-b-a : goal.returns-then-b-a
returns-then-b-a c = search (arms, rules)

pub returns-then-a : goal.returns-then-a
returns-then-a c = search (arms, rules)

pub returns-else-a : goal.returns-else-a
returns-else-a c = search (arms, rules)
