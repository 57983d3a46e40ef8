-- Number k is put back last.
use Rattle.std.proofs.Common.{◌≡◌, length, arith}
use Rattle.elimination.specs.TwoColumns.{right_put}
use Rattle.elimination.proofs.columns.take_right.Goals as goal

pub returns : goal.returns
returns c =
    let l = c.loop-i in
    let a = c.args in
    let e : l.i ≡ length a.b.now = omega arith in
    right_put a.b.now l.b a.col.now a.k (omega arith) (omega arith) (rw e at l.invariant)
