-- The eigenaxis plan of a problem as declared. Definitions only.
use Rattle.std.specs.Prelude.{ℕ, Bool, cond, List, Float}
use Rattle.planner.specs.declared.Planned.{Planned}
use Rattle.eigenaxis_seed.specs.declared.Shape.{Shape}
use Rattle.eigenaxis_seed.specs.declared.Shape.TheVariants.{Fastest, Gentle}
use Rattle.eigenaxis.specs.Ladders.{plan_eigenaxis, counted}
use Rattle.problem_numbers.specs.Declared.{problem}

abbrev pub shape_of : Bool → Shape
shape_of gentle = cond gentle Gentle Fastest

-- on a workspace of `size` numbers
abbrev pub about : List ℕ → List Float → List Float → Bool → Bool → ℕ → Planned
about c v b limited gentle size = counted (plan_eigenaxis (problem c v b limited) (shape_of gentle) size)
