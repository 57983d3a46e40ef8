use Rattle.std.proofs.Common.{◌≡◌, ◌*◌, ◌+◌, ◌<◌, length, arith}
use Rattle.common.specs.IterLaws.{row_end}
use Rattle.normal_equations.specs.DampInner.{damped_none, damped_more, damped_all}
use Rattle.normal_equations.proofs.damp.Goals as goal

pub loop-k-init : goal.loop-k-init
loop-k-init c = damped_none _ _ _

pub loop-k-preserved : goal.loop-k-preserved
loop-k-preserved c =
    let l = c.loop-k in
    let a = c.args in
    let inside : l.k * a.n + l.k < length l.a = omega (arith, row_end l.k a.n a.n (omega arith)) in
    damped_more a.n a.lambda l.k a.a.now l.a (omega arith) inside l.invariant

pub returns : goal.returns
returns c =
    let l = c.loop-k in
    let a = c.args in
    let e : l.k ≡ a.n = omega arith in
    damped_all a.n a.lambda a.a.now l.a (omega arith) (rw e at l.invariant)
