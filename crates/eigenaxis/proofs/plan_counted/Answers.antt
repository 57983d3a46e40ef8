-- `plan_eigenaxis` says all three of its answer, and `counted` gives it the runs of every try.
use Rattle.eigenaxis.proofs.plan_counted.Goals as goal

pub returns : goal.returns
returns c =
    let e = c.plan_eigenaxis-e.ensures in
    record { value = rw (c.counted.ensures, e.0); ws_after = rw c.counted.ensures e.1.0; answers = rw e.0 at e.1.1 }
