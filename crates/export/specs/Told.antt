-- What the code reads from how an entry ended is what its answer says, in the specification's numbers. Assumes nothing.
use Rattle.std.specs.Prelude.{◌≡◌, refl, Ok, Err}
use Rattle.planner.specs.Plans.{answer}
use Rattle.planner.specs.declared.Planned.{Planned}
use Rattle.export_leaves.specs.OutcomeLaws.{Tells}
use Rattle.common.specs.Refusals.{Fate}

pub of_plan : (r : Planned) → Tells (answer r) r.fate r.runs
of_plan r = go r.fate refl
  where
    go : (f : Fate) → r.fate ≡ f → Tells (answer r) r.fate r.runs
    go (Ok _) e = rw e (record { number = refl; place = refl; runs = refl })
    go (Err why) e = rw e (record { number = refl; place = refl; runs = refl })
