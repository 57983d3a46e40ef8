-- `scvx::steps::iterate` meets its contract: the residuals are known, so the length that is tested is the definition's (`iterate_ends`, `iterate_on`).
use mathlib.Core.Path.{ap, ◌∙◌}
use lib.Ieee as Ieee
use Rattle.scvx.specs.declared.SearchState.{SearchState}
use Rattle.scvx.specs.declared.Progress.{Progress}
use Rattle.scvx.specs.StepLaws.{iterate_ends, iterate_on}
use native.Mathlib.Omega.{arith}
use Rattle.scvx.proofs.steps.iterate.Goals as goal

pub returns-then-s : goal.returns-then-s
unfolding Ieee.of_bits
returns-then-s c =
    let begin-iteration = c.begin_iteration-s in (
      rw (c.with_state.ensures, c.with_status.ensures, begin-iteration.ensures) (iterate_ends c.args.p c.args.k c.args.g.state c.requires.1.1.1 (rw begin-iteration.ensures at c.if-s.true)),
      rw (c.with_state.ensures, c.with_status.ensures, begin-iteration.ensures) c.requires.1.1.1,
    )

pub linear_step-requires : goal.linear_step-requires
linear_step-requires c =
    let begin-iteration = c.begin_iteration-s in
    let q = ap (λ (x : Progress). x.state.runs) c.with_state-2.ensures ∙ ap (λ (x : SearchState). x.runs) begin-iteration.ensures in
    (c.requires.0, (omega (arith, c.requires.1.1.0), rw (c.with_state-2.ensures, begin-iteration.ensures) c.requires.1.1.1))

pub returns : goal.returns
unfolding Ieee.of_bits
returns c =
    let begin-iteration = c.begin_iteration-s in
    let linear-step = c.linear_step in
    let if1 = c.if-s in (
      (rw (c.with_state-2.ensures, begin-iteration.ensures) at linear-step.ensures.0) ∙ iterate_on c.args.p c.args.k c.args.g.state c.requires.1.1.1 (rw begin-iteration.ensures at if1.false),
      linear-step.ensures.1,
    )
