-- The profile's operations on the numbers that the C interface takes. Definitions only.
use Rattle.std.specs.Prelude.{Bool, List, Float}
use Rattle.common.specs.Answer.{Answer}
use Rattle.geom.specs.Vec as Vec
use Rattle.profile.specs.Answers.{of_acceleration}
use Rattle.profile.specs.Profiles as Profiles
use Rattle.export_leaves.specs.Packed.{quat, limit}
use Rattle.export_leaves.specs.Outcomes.{of_profiled}

-- the acceleration about an axis within a box of torques
abbrev pub alpha_from_box : List Float → List Float → List Float → Answer Float
alpha_from_box j axis most = of_acceleration (Profiles.alpha_from_box (Vec.tensor j) axis most)

-- the profile from q0 to qf, with a slew limit or without
abbrev pub bang_coast_bang : List Float → List Float → List Float → List Float → Bool → Float → Float → Answer (List Float)
bang_coast_bang q0 qf j most limited slew tie = of_profiled (Profiles.bang_coast_bang (quat q0) (quat qf) (Vec.tensor j) most (limit limited slew) tie)
