-- `planner::held_of` meets its contract: the test of `tried` is the definition's, and either case its answer.
use Rattle.planner.proofs.held_of.Goals as goal

pub returns-then-found : goal.returns-then-found
returns-then-found c = rw c.if-found.true

pub returns-else-found : goal.returns-else-found
returns-else-found c = rw c.if-found.false
