-- `with_momenta` makes the definition's problem, and `plan` says all three of its answer.
use Rattle.preview.proofs.preview.Goals as goal

pub returns : goal.returns
returns c =
    let turning = c.with_momenta-turning.ensures in
    let planned = c.plan-planned.ensures in
    record { value = rw (planned.0, turning); ws_after = planned.1.0; answers = rw turning at planned.1.1 }
