-- Forward runs and residuals of a problem as declared, and what a call tells of them. Definitions only.
use Rattle.std.specs.Prelude.{ℕ, ◌≡◌, Bool, List, Float}
use Rattle.forward.specs.Reconstruct as Forward
use Rattle.forward.specs.declared.Reconstructed.{Reconstructed}
use Rattle.residuals.specs.MeasuredResiduals as Residuals
use Rattle.residuals.specs.declared.Measured.{Measured}
use Rattle.samples.specs.Rows.{rows}
use Rattle.export_leaves.specs.Outcomes.{Counted}
use Rattle.problem_numbers.specs.Declared.{problem}

-- what `reconstruct` answers to such a problem and a packed decision
abbrev pub reconstructed : List ℕ → List Float → List Float → Bool → List Float → Reconstructed
reconstructed c v b limited z = Forward.reconstruct (problem c v b limited) z

-- what `residuals` answers
abbrev pub measured : List ℕ → List Float → List Float → Bool → List Float → Measured
measured c v b limited z = Residuals.residuals (problem c v b limited) z

-- a call answers n and puts place, runs, the rows of the nodes and the defect: those of the run m
pub record RunTold (m : Reconstructed) (n place runs : ℕ) (nodes : List (List Float)) (defect : Float) : Type 0 where
  pub counted : Counted (Forward.answer m) m.runs n place runs
  pub nodes_are : nodes ≡ rows m.run.nodes
  pub defect_is : defect ≡ m.run.defect

-- a call answers n and puts place, runs, the residuals, zeros past them, and their count: those of m
pub record ResidualsTold (m : Measured) (n place runs : ℕ) (out : List Float) (count : ℕ) : Type 0 where
  pub counted : Counted (Residuals.answer m) m.runs n place runs
  pub out_is : out ≡ m.residuals.r
  pub count_is : count ≡ m.residuals.count
