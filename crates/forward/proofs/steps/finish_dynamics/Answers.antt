-- `forward::steps::finish_dynamics` meets its contract: gimbals, power, momenta in turn; a refusal is `finished_refused`, none is `finished_going`.
use mathlib.Core.Path.{refl, sym, ◌∙◌}
use lib.Ieee as Ieee
use Rattle.forward.specs.StepLaws.{row_room, ends_gimbals, ends_powered, ends_finished, hands_on}
use Rattle.forward.specs.StepPartInner.{with_attitude, finished_refused, finished_going}
use native.Mathlib.Omega.{arith}
use Rattle.forward.proofs.steps.finish_dynamics.Goals as goal

pub slice_bounds-step_gimbals-count : goal.slice_bounds-step_gimbals-count
slice_bounds-step_gimbals-count c =
    omega (arith, row_room _ _ c.requires.0)

pub slice_bounds-step_gimbals-start : goal.slice_bounds-step_gimbals-start
slice_bounds-step_gimbals-start c =
    omega (arith, row_room _ _ c.requires.0)

pub step_gimbals-requires : goal.step_gimbals-requires
step_gimbals-requires c =
    (omega (arith, row_room _ _ c.requires.0), c.requires.1)

pub returns-in-Err : goal.returns-in-Err
returns-in-Err c =
    let step-gimbals = c.step_gimbals in
    finished_refused _ _ _ _ _ c.refuse_dynamics.ensures (λ q q2. ends_gimbals _ _ _ (with_attitude q c.args.s) _ _ _ q2 step-gimbals.ensures c.in-Err.is)

pub slice_bounds-over_power-end : goal.slice_bounds-over_power-end
slice_bounds-over_power-end c =
    omega (arith, row_room _ _ c.requires.0)

pub returns-then-over_power : goal.returns-then-over_power
unfolding Ieee.of_bits
returns-then-over_power c =
    let step-gimbals = c.step_gimbals in
    let enum_told = c.in-Ok in
    finished_refused _ _ _ _ _ c.refuse_dynamics-then-over_power.ensures (λ q q2. ends_powered _ _ _ (with_attitude q c.args.s) _ _ _ q2 step-gimbals.ensures enum_told.is refl (sym c.over_power.ensures ∙ c.if-over_power.true))

pub slice_bounds-momenta_next-end : goal.slice_bounds-momenta_next-end
slice_bounds-momenta_next-end c =
    omega (arith, row_room _ _ c.requires.0)

pub returns : goal.returns
unfolding Ieee.of_bits
returns c =
    let step-gimbals = c.step_gimbals in
    let enum_told = c.in-Ok in
    let over-power = c.over_power in
    let if1 = c.if-over_power in
    let momenta_next_law = c.momenta_next-hw in
    let body-momentum = c.body_momentum-h in
    finished_going _ _ _ _ _ c.dynamics_from.ensures (λ q q2. ends_finished _ _ _ (with_attitude q c.args.s) _ _ _ q2 step-gimbals.ensures enum_told.is refl (sym over-power.ensures ∙ if1.false) momenta_next_law.ensures body-momentum.ensures) (hands_on _ _ _ _ _ step-gimbals.ensures enum_told.is)
