-- The equations that are solved are the definition's; where they are singular the damping grows.
use Rattle.std.proofs.Common.{◌∙◌, sym, length-take-le, arith, rules}
use Rattle.std.specs.Float.Ieee as Ieee
use Rattle.scvx.specs.ProgressInner.{sizes_step, width_laid}
use Rattle.scvx.specs.StepLaws.{by_solution}
use Rattle.scvx.proofs.steps.take_step.Goals as goal

pub step_of-requires : goal.step_of-requires
step_of-requires c =
    let z = c.requires.0 in
    (z.n_most, (width_laid c.args.p z.m_is, (z.fits, c.requires.1.1)))

pub returns-in_default : goal.returns-in_default
unfolding Ieee.of_bits
returns-in_default c =
    let a = c.args in
    let z = c.requires.0 in
    let t = rw c.in_default.is at c.step_of.ensures in (
      rw (c.with_state.ensures, c.with_damping.ensures, c.min.ensures) (by_solution a.p a.g.state a.n a.m _ a.g.r z.n_is z.m_is t.0),
      (λ j x h. rw (c.with_state.ensures, c.with_damping.ensures) h, t.1),
    )

pub try_step-requires : goal.try_step-requires
try_step-requires c = (sizes_step _ c.requires.0 (length-take-le _ _ (omega (arith, c.requires.0.n_most))), omega (arith, c.requires.1.0))

pub returns : goal.returns
returns c =
    let a = c.args in
    let z = c.requires.0 in
    let t = rw c.in-Some.is at c.step_of.ensures in
    (c.try_step.ensures.0 ∙ by_solution a.p a.g.state a.n a.m _ a.g.r z.n_is z.m_is t.0, (c.try_step.ensures.1, t.1))
