-- `forward::steps::dynamics` meets its contract: torque, rates, defect and turn are the step law's in its order; `dynamics_finished` adds the rest.
use Rattle.forward.specs.StepPartInner.{dynamics_finished}
use Rattle.forward.proofs.steps.dynamics.Goals as goal

pub finish_dynamics-requires : goal.finish_dynamics-requires
finish_dynamics-requires c =
    (c.requires.0, c.requires.1)

pub returns : goal.returns
returns c =
    let row-torque = c.row_torque-tau in
    let rate-dot = c.rate_dot-wd in
    let rate-next = c.rate_next-w2 in
    λ m. dynamics_finished _ _ _ _ _ (rw c.dynamics_at-l.ensures at c.finish_dynamics.ensures) m row-torque.ensures rate-dot.ensures rate-next.ensures c.defect_square-square.ensures c.turn_of-turn.ensures
