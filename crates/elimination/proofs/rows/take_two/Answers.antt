-- Both rows at once are one after the other.
use Rattle.std.proofs.Common.{◌≡◌, length, arith, length-set}
use Rattle.std.specs.Float.Ieee.{Float}
use Rattle.elimination.specs.TwoColumns.{two_put}
use Rattle.elimination.proofs.rows.take_two.Goals as goal

pub returns : goal.returns
returns c =
    let l = c.loop-j in
    let a = c.args in
    let e : l.j ≡ length a.row.now = omega (arith, length-set {A = Float}) in
    two_put a.k a.t.now a.u.now a.row.now l.row (omega arith) (omega (arith, length-set {A = Float})) (rw e at l.invariant)
