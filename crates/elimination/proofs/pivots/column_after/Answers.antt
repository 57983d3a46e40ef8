-- Number k is set last.
use Rattle.std.proofs.Common.{length, arith}
use Rattle.elimination.specs.TwoColumns.{column_put}
use Rattle.elimination.proofs.pivots.column_after.Goals as goal

pub returns : goal.returns
returns c =
    let l = c.loop-i in
    let a = c.args in
    column_put (length a.col.now) a.k a.a.now a.top.now l.col c.requires.0 (omega arith) c.requires.3 (λ x h. l.invariant.done x (omega arith) (omega arith))
