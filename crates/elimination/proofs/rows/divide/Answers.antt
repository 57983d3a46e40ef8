use Rattle.std.proofs.Common.{◌≡◌, length, arith}
use borrow.Author.Tests.{lt-leb}
use Rattle.normal_equations.specs.FilledInner.{filled_all}
use Rattle.elimination.specs.Elimination as Elimination
use Rattle.elimination.proofs.rows.divide.Goals as goal

pub returns : goal.returns
unfolding Elimination.divided
returns c =
    let l = c.loop-j in
    let a = c.args in
    let e : l.j ≡ length a.row.now = omega arith in
    filled_all _ a.k a.row.now l.row (omega arith) (rw e at l.invariant) (λ x h. simp (lt-leb a.k x h))
