-- `planner::counted` meets its contract: two tests of a length, and a law for each outcome of the first.
use Rattle.planner.specs.PlanLaws.{counted_not, counted_so}
use Rattle.planner.proofs.counted.Goals as goal

pub returns-then-rates-ne51 : goal.returns-then-rates-ne51
returns-then-rates-ne51 c = counted_not c.args.rates.now c.args.torques.now c.if-rates-ne51.true

pub returns : goal.returns
returns c = counted_so c.args.rates.now c.args.torques.now c.if-rates-ne51.false
