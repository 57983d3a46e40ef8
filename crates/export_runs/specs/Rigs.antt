-- What a call tells of a torque and of an allocated row. Definitions only.
use Rattle.std.specs.Prelude.{ℕ, ◌≡◌, List, Float}
use Rattle.actuators.specs.Allocate.{allocate, row_or_zeros}
use Rattle.actuators.specs.Answers.{of_allocated}
use Rattle.actuators.specs.declared.ActuatorMap.{ActuatorMap}
use Rattle.controls.specs.Answers.{of_torque}
use Rattle.controls.specs.Controls.{Torque, torque_or_zeros}
use Rattle.export_leaves.specs.Outcomes.{number, Placed}

-- a call answers n and puts the torque t, zeros where it is refused
pub record TorqueTold (t : Torque) (n : ℕ) (out : List Float) : Type 0 where
  pub number_is : n ≡ number (of_torque t)
  pub out_is : out ≡ torque_or_zeros t

-- a call answers n and puts place and the row that gives the torque tau, zeros where it is refused
pub record RowTold (m : ActuatorMap) (tau : List Float) (n place : ℕ) (out : List Float) : Type 0 where
  pub placed : Placed (of_allocated m (allocate m tau)) n place
  pub out_is : out ≡ row_or_zeros (allocate m tau)
