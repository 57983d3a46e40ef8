-- `scvx::steps::linear_step` meets its contract: columns that stand are the Jacobian's, so counting their runs is all that forming them would change.
use mathlib.Core.Path.{ap, ◌∙◌}
use Rattle.scvx.specs.declared.SearchState.{SearchState}
use Rattle.scvx.specs.declared.Progress.{Progress}
use Rattle.scvx.specs.ProgressInner.{known_zeros, stands_summed}
use Rattle.scvx.specs.StepLaws.{linear_step_formed}
use native.Mathlib.Omega.{arith}
use Rattle.scvx.proofs.steps.linear_step.Goals as goal

pub take_step-requires : goal.take_step-requires
take_step-requires c =
    let z = c.requires.0 in
    let h = c.requires.1.1 in
    let q = ap (λ (x : Progress). x.state.runs) c.with_state.ensures ∙ ap (λ (x : SearchState). x.runs) c.count_runs.ensures in (
      z,
      (omega (arith, z.n_most, c.requires.1.0), (rw c.with_state.ensures (known_zeros h.known z.m_is), stands_summed h z.n_is z.m_is c.if-g.true)),
    )

pub returns-then-g : goal.returns-then-g
returns-then-g c =
    let if1 = c.if-g in
    let count_runs = c.count_runs in
    let with-state = c.with_state in
    let a = c.args in
    let h = c.requires.1.1 in
    let t = c.take_step.ensures in (
      (rw (with-state.ensures, count_runs.ensures) at t.0) ∙ linear_step_formed a.p a.g.state a.g.r c.requires.0.n_is (h.formed if1.true),
      rw t.1.1 (t.1.0 _ _ (rw (with-state.ensures, count_runs.ensures) h)),
    )

pub returns : goal.returns
returns c = c.form_columns.ensures
