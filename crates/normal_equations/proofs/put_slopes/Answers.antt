use Rattle.std.proofs.Common.{◌≡◌, length, arith}
use Rattle.normal_equations.specs.Normal as Normal
use Rattle.normal_equations.specs.FilledInner.{filled_all}
use Rattle.normal_equations.proofs.put_slopes.Goals as goal

pub returns : goal.returns
unfolding Normal.slopes
returns c =
    let l = c.loop-i in
    let e : l.i ≡ length c.args.column.now = omega arith in
    filled_all _ 0 c.args.column.now l.column (omega arith) (rw e at l.invariant) (λ x h. absurd (omega arith))
