use Rattle.std.proofs.Common.{◌≡◌, arith}
use Rattle.common.specs.IterLaws.{iter_none}
use Rattle.reference_checks.specs.StepLaws.{steps_next, steps_refused, steps_all}
use Rattle.reference_checks.proofs.check_steps.Goals as goal

pub loop-k-init : goal.loop-k-init
loop-k-init c = (c.requires.1.1, iter_none _ _)

pub returns-in-Err : goal.returns-in-Err
returns-in-Err c =
    let l = c.loop-k in
    record { is = steps_refused _ _ l.invariant.1 (l.invariant.0, c.sample_of-next.ensures) c.check_step.ensures (omega arith) (omega arith) c.in-Err.is; few = omega arith }

pub loop-k-preserved : goal.loop-k-preserved
loop-k-preserved c =
    let l = c.loop-k in
    (c.sample_of-next.ensures, steps_next _ _ l.invariant.1 (l.invariant.0, c.sample_of-next.ensures) c.check_step.ensures c.in_default.is)

pub returns : goal.returns
returns c =
    let l = c.loop-k in
    let e : l.k ≡ c.args.r.steps = omega arith in
    record { is = rw e at (steps_all _ l.k _ l.invariant.1 e); few = omega arith }
