-- A refused run ends the search; else its residuals are known, and `judge` does the rest.
use Rattle.std.proofs.Common.{refl}
use Rattle.scvx.specs.Search as Search
use Rattle.scvx.specs.ProgressInner.{known_of}
use Rattle.scvx.proofs.steps.try_step.Goals as goal

pub trial_candidate-requires : goal.trial_candidate-requires
trial_candidate-requires c = c.requires.0.m_most

pub returns-in-Err : goal.returns-in-Err
unfolding Search.try_step
returns-in-Err c =
    let t = c.trial_of-t in (
      rw (← t.ensures.0, ← t.ensures.1, ← c.residuals_of-e.ensures, c.in-Err.is, c.with_state.ensures, c.with_status.ensures, c.count_runs-s1.ensures),
      λ j a h. rw (c.with_state.ensures, c.with_status.ensures, c.count_runs-s1.ensures) h,
    )

pub returns-in-Ok : goal.returns-in-Ok
unfolding Search.try_step
returns-in-Ok c =
    let t = c.trial_of-t in
    let goes = c.in-Ok.is in
    let sizes = c.requires.0 in
    let j = c.judge.ensures in (
      rw (← t.ensures.0, ← t.ensures.1, ← c.residuals_of-e.ensures, goes) (rw (c.with_state-in-Ok.ensures, c.count_runs-s1.ensures, c.trial_candidate.ensures, sizes.m_is) at j.0),
      λ x a h. j.1 c.args.p (rw c.trial_candidate.ensures (known_of _ c.residuals_of-e.ensures goes sizes.m_is refl)) x a (rw (c.with_state-in-Ok.ensures, c.count_runs-s1.ensures) h),
    )
