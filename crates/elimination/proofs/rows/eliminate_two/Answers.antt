use Rattle.std.proofs.Common.{length, arith}
use Rattle.normal_equations.specs.TabLaws.{tab_same}
use Rattle.elimination.specs.Inner as Inner
use Rattle.elimination.proofs.rows.eliminate_two.Goals as goal

pub returns : goal.returns
unfolding Inner.eliminate_two
returns c = tab_same (length c.args.t.now) _ _ (λ x h. c.loop-i.invariant.done x (omega arith) (omega arith))
