-- What each answer of this crate is in the specification's numbers. An operation called alone names place 0 and 0 runs. Definitions only.
use Rattle.std.specs.Prelude.{List, Float}
use Rattle.common.specs.Answer.{Answer}
use Rattle.geom.specs.Answers.{of_result}
use Rattle.controls.specs.Controls.{Torque}

-- a row's torque, or 8 or 11
abbrev pub of_torque : Torque → Answer (List Float)
of_torque t = of_result t
