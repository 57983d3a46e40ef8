-- Below 2^52 in size `next_whole` and `cut` have it; anything else is its own ceiling.
use Rattle.std.proofs.Common.{rules}
use Rattle.float.proofs.Whole.{wholes}
use Rattle.float.proofs.ceil.Goals as goal

pub returns-else-x-2 : goal.returns-else-x-2
returns-else-x-2 c = search (wholes, rules)

pub returns-else-x-4 : goal.returns-else-x-4
returns-else-x-4 c = search (wholes, rules)

pub returns-else-x-3 : goal.returns-else-x-3
returns-else-x-3 c = search (wholes, rules)
