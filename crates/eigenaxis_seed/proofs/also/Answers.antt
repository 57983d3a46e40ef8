-- `also` meets its contract: the comparison is the definition's, and either case its answer.
use Rattle.eigenaxis_seed.proofs.also.Goals as goal

pub returns-then-x-y : goal.returns-then-x-y
returns-then-x-y c = rw c.if-x-y.true

pub returns-else-x-y : goal.returns-else-x-y
returns-else-x-y c = rw c.if-x-y.false
