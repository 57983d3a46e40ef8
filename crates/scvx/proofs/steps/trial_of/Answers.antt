-- `scvx::steps::trial_of` meets its contract: the step applied, then its counts and its projection by their own contracts.
use Rattle.scvx.specs.Search as Search
use Rattle.scvx.proofs.steps.trial_of.Goals as goal

pub returns : goal.returns
unfolding Search.trial_of Search.trial_held
returns c =
    let apply-step = c.apply_step-moved in
    let n = c.requires.1.1 in
    (rw (c.project.ensures, apply-step.ensures, n), rw (c.held_counts.ensures, apply-step.ensures, n))
