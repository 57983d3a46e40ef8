-- What the code reads from how a run ended is what its answer says, in the specification's numbers. Assumes nothing.
use Rattle.std.specs.Prelude.{ℕ, ◌≡◌, refl, List, Float, Ok, Err}
use Rattle.forward.specs.Reconstruct as Forward
use Rattle.forward.specs.declared.Reconstructed.{Reconstructed}
use Rattle.residuals.specs.MeasuredResiduals as Residuals
use Rattle.residuals.specs.declared.Measured.{Measured}
use Rattle.samples.specs.Rows.{rows}
use Rattle.export_leaves.specs.Outcomes.{fate_number, fate_place}
use Rattle.export_leaves.specs.OutcomeLaws.{Tells, counted}
use Rattle.export_runs.specs.Paths.{RunTold, ResidualsTold}
use Rattle.common.specs.Refusals.{Fate}

pub of_run_law : (r : Reconstructed) → Tells (Forward.answer r) r.run.fate r.runs
of_run_law r = go r.run.fate refl
  where
    go : (f : Fate) → r.run.fate ≡ f → Tells (Forward.answer r) r.run.fate r.runs
    go (Ok _) e = rw e (record { number = refl; place = refl; runs = refl })
    go (Err why) e = rw e (record { number = refl; place = refl; runs = refl })

pub of_residuals : (m : Measured) → Tells (Residuals.answer m) m.residuals.fate m.runs
of_residuals m = go m.residuals.fate refl
  where
    go : (f : Fate) → m.residuals.fate ≡ f → Tells (Residuals.answer m) m.residuals.fate m.runs
    go (Ok _) e = rw e (record { number = refl; place = refl; runs = refl })
    go (Err why) e = rw e (record { number = refl; place = refl; runs = refl })

-- what is told of them, by their fate
module _ {n place : ℕ} where
  pub run_told : (m : Reconstructed) {nodes : List (List Float)} → place ≡ fate_place m.run.fate → n ≡ fate_number m.run.fate
      → nodes ≡ rows m.run.nodes → RunTold m n place m.runs nodes m.run.defect
  run_told m p q r = record { counted = counted (of_run_law m) p q; nodes_are = r; defect_is = refl }

  pub residuals_told : (m : Measured) → place ≡ fate_place m.residuals.fate → n ≡ fate_number m.residuals.fate
      → ResidualsTold m n place m.runs m.residuals.r m.residuals.count
  residuals_told m p q = record { counted = counted (of_residuals m) p q; out_is = refl; count_is = refl }
