-- What each answer of this crate is in the specification's numbers: the value, or a refusal's number and place with 0 runs. Definitions only.
use Rattle.std.specs.Prelude.{List, Float, take, Option, Some, None, Ok, Err}
use Rattle.common.specs.Answer.{Answer, Given, Refused}
use Rattle.geom.specs.Answers.{of_result}
use Rattle.actuators.specs.declared.ActuatorMap.{ActuatorMap}
use Rattle.actuators.specs.Maps.{control_dim}
use Rattle.actuators.specs.Prepare.{Prepared}
use Rattle.actuators.specs.Pyramid.{Jacobian, rows}
use Rattle.actuators.specs.Allocate.{Allocated}

-- a prepared map, or 1, 2 or 3 at its place
abbrev pub of_prepared : Prepared → Answer ActuatorMap
of_prepared p = of_result p

-- a pyramid's 3 by 4 matrix, or 11
abbrev pub of_jacobian : Jacobian → Answer (List (List Float))
of_jacobian (Ok a) = Given (rows a)
of_jacobian (Err why) = Refused why.number why.place 0

-- the measure of singularity, or 11
abbrev pub of_measure : Option Float → Answer Float
of_measure (Some x) = Given x
of_measure None = Refused 11 0 0

-- a row of as many controls as the map has, or 6 at place 1, 8 or 11
abbrev pub of_allocated : ActuatorMap → Allocated → Answer (List Float)
of_allocated m (Ok u) = Given (take (control_dim m) u)
of_allocated m (Err why) = Refused why.number why.place 0
