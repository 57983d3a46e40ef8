-- What is known of a run's residuals after its first steps. Definitions only.
use Rattle.std.specs.Prelude.{ℕ, ◌+◌, ◌-◌, ◌*◌, ◌≤◌, ◌<◌, ◌≡◌, true, List, length, Float, Option, Some, Ok, Err}
use Rattle.std.specs.Float.Ieee.{lt}
use Rattle.common.specs.Floats as Floats
use Rattle.common.specs.Lists.{at}
use Rattle.geom.specs.Vec as Vec
use Rattle.geom.specs.declared.Quat.{Quat}
use Rattle.forward.specs.Rows.{nodes_from, row_at}
use Rattle.forward.specs.declared.Node.{Node}
use Rattle.forward.specs.Runs.{node_at}
use Rattle.residuals.specs.Sums.{energy_over, smooth_over}
use Rattle.residuals.specs.Residuals.{error_of, pointing, refused_residuals}
use Rattle.residuals.specs.declared.Begun.{Begun}
use Rattle.residuals.specs.declared.Target.{Target}
use Rattle.residuals.specs.declared.ResidualVector.{ResidualVector}
use Rattle.common.specs.Refusals.{Fate}

-- a pointing error that is kept as three numbers
abbrev pub error_in : List Float → Option (Float × Float × Float)
error_in e = Some (at e 0, at e 1, at e 2)

-- the errors of the first k nodes are kept
abbrev pub ErrorsKept : Quat → List Node → ℕ → List (List Float) → Type 0
ErrorsKept qf ns k errors = (j : ℕ) → j < k → error_in (row_at errors j) ≡ error_of (node_at ns j).q qf

-- where there is a pointing weight
abbrev pub ErrorsKnown : Target → List Node → ℕ → List (List Float) → Type 0
ErrorsKnown t ns k errors = lt Floats.plus_zero t.weights.pointing ≡ true → ErrorsKept t.qf ns k errors

-- s is the sums of the first k steps of the run whose nodes are in the rows v; k nodes have k - 1 changes of rate between them
pub record Summed (dt : Float) (v : List (List Float)) (k : ℕ) (s : Begun) : Type 0 where
  pub few : k ≤ 16
  pub long : length v ≡ 17
  pub energy : s.energy ≡ energy_over (nodes_from v) dt k
  pub smooth : s.smooth ≡ smooth_over (nodes_from v) dt (k - 1)

-- what is known of the first k steps: their sums, and with a pointing weight the errors of their nodes
pub record Begins (t : Target) (dt : Float) (v : List (List Float)) (k : ℕ) (s : Begun) (errors : List (List Float)) : Type 0 where
  pub sums : Summed dt v k s
  pub kept : ErrorsKnown t (nodes_from v) k errors

-- three numbers are the error at the end
abbrev pub EndError : Quat → List Node → List Float → Type 0
EndError qf ns e = error_in e ≡ error_of (node_at ns 16).q qf

-- the errors of the first k nodes and of the last one
pub record Aims (qf : Quat) (ns : List Node) (k : ℕ) (errors : List (List Float)) (e : List Float) : Type 0 where
  pub kept : ErrorsKept qf ns k errors
  pub end : EndError qf ns e

-- a target's counts, and a decision as long as its controls need
pub record Fits (t : Target) (z : List Float) : Type 0 where
  pub wheels : t.wheels ≤ 8
  pub numbers : 1 + 16 * t.controls ≤ length z

-- pointing rows, by how they ended
abbrev pub rows_by : Fate → List Float → ResidualVector
rows_by (Ok _) r = pointing r
rows_by (Err why) r = refused_residuals why.number why.place
