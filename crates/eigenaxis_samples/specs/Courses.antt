-- Dense samples of the eigenaxis plan of a problem's text: what they are taken of, and the acceleration that they are asked for with. Definitions only.
use Rattle.std.specs.Prelude.{ℕ, ◌+◌, List, Float}
use Rattle.std.specs.Float.{binary64}
use Rattle.std.specs.Float.Ieee.{div}
use Rattle.common.specs.Floats.{plus_zero}
use Rattle.common.specs.Iter.{iter}
use Rattle.float.specs.Ops.{max}
use Rattle.forward.specs.Decisions.{sixteen}
use Rattle.forward.specs.declared.Node.{Node}
use Rattle.forward.specs.Runs.{node_at}
use Rattle.residuals.specs.Sums.{change}
use Rattle.planner.specs.declared.Planned.{Planned}
use Rattle.problem_text.specs.Reader.{read_problem}
use Rattle.sample_text.specs.SampleTexts.{course_of}
use Rattle.sample_text.specs.declared.Course.{Course}
use Rattle.eigenaxis_seed.specs.declared.Shape.{Shape}
use Rattle.eigenaxis_text.specs.EigenaxisTexts.{planned}

-- the larger of a and the length of the rate's change from w to w2 over a time dt
unfoldable pub steeper : List Float → List Float → Float → Float → Float
steeper w w2 dt a = max a (change w w2 dt)

abbrev pub steep_turn : List Node → Float → ℕ → Float → Float
steep_turn ns dt k a = steeper (node_at ns k).w (node_at ns (k + 1)).w dt a

-- the largest over the 16 steps of a path
unfoldable pub steepest : List Node → Float → Float
steepest ns dt = iter (steep_turn ns dt) plus_zero 16

-- Samples of an eigenaxis plan are asked for with the path's own largest acceleration: the profile knows nothing of actuators, and a half turn has none.
unfoldable pub alpha_of : Planned → Float
alpha_of a = steepest a.path.nodes (div binary64 a.path.duration sixteen)

-- the eigenaxis plan of a text, in a workspace of `size` numbers; 21 comes before every other refusal
unfoldable pub eigenaxis_course : List ℕ → Shape → ℕ → Course
eigenaxis_course text shape size = let a = planned text shape size in course_of (read_problem text).problem a (alpha_of a)
