use Rattle.std.proofs.Common.{◌≡◌, length, arith, sym, ◌∙◌}
use Rattle.normal_equations.specs.NormalLaws.{right_rows}
use Rattle.normal_equations.specs.FilledInner.{filled_all}
use Rattle.normal_equations.proofs.right_side.Goals as goal

pub returns : goal.returns
returns c =
    let l = c.loop-c in
    let a = c.args in
    let e : l.c ≡ length a.g.now = omega arith in
    filled_all _ 0 a.g.now l.g (omega arith) (rw e at l.invariant) (λ x h. absurd (omega arith)) ∙ sym (right_rows (length a.g.now) a.m a.j.now a.r.now)
