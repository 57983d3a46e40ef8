use Rattle.std.proofs.Common.{◌≡◌, ◌∙◌, ap}
use Rattle.geom.specs.Vec.{tensor}
use Rattle.geom.specs.Tensors.{invert_spd}
use Rattle.problem.specs.Problems as Problems
use Rattle.problem.proofs.with_attitudes.Goals as goal

pub returns-in-Err : goal.returns-in-Err
unfolding Problems.with_attitudes
returns-in-Err c =
    let e : c.invert_spd.result ≡ invert_spd (tensor c.args.p.inertia) = c.invert_spd.ensures ∙ ap invert_spd c.tensor.ensures in
    rw (← e, c.in-Err.is) c.refused.ensures

pub returns-in-Ok : goal.returns-in-Ok
unfolding Problems.with_attitudes
returns-in-Ok c =
    let e : c.invert_spd.result ≡ invert_spd (tensor c.args.p.inertia) = c.invert_spd.ensures ∙ ap invert_spd c.tensor.ensures in
    rw (← e, c.in-Ok.is, c.placed-momenta.ensures)
