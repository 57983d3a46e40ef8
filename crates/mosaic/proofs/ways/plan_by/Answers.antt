-- `plan` or `plan_counted` answers, and a law for each way says that its contract is the way's.
use Rattle.mosaic.specs.WayLaws.{search_is, search_answers, eigenaxis_is, eigenaxis_answers}
use Rattle.mosaic.proofs.ways.plan_by.Goals as goal

pub returns-in-Search : goal.returns-in-Search
returns-in-Search c =
    let e = c.plan.ensures in
    record { value = rw c.in-Search.is (search_is _ _ e.0); ws_after = e.1.0; answers_by = rw c.in-Search.is (search_answers _ _ e.1.1) }

pub returns-in-Eigenaxis : goal.returns-in-Eigenaxis
returns-in-Eigenaxis c =
    let e = c.plan_counted.ensures in
    record { value = rw c.in-Eigenaxis.is (eigenaxis_is _ _ _ e.value); ws_after = e.ws_after; answers_by = rw c.in-Eigenaxis.is (eigenaxis_answers _ _ _ e.value e.answers) }
