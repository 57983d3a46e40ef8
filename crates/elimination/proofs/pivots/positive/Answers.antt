use Rattle.elimination.specs.TwoColumns.{abs_neg}
use Rattle.elimination.proofs.pivots.positive.Goals as goal

pub returns-then-x : goal.returns-then-x
returns-then-x c = abs_neg _
