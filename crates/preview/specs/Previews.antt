-- Planning split in two: a preview plans from the wheel momenta on record and keeps them beside the plan; a start takes it, and the momenta on record. Definitions only.
use Rattle.std.specs.Prelude.{ℕ, Bool, true, false, List, Float, Ok, Err}
use Rattle.problem.specs.declared.Momenta.{Momenta}
use Rattle.problem.specs.declared.Problem.{Problem}
use Rattle.planner.specs.Plans.{plan, plan_from}
use Rattle.wheel_momenta.specs.Successive.{last_momenta, with_momenta}
use Rattle.wheel_record.specs.Commits.{commit}
use Rattle.wheel_record.specs.declared.Started.{Started}
use Rattle.preview.specs.declared.Previewed.{Previewed}
use Rattle.common.specs.Refusals.{Fate}

-- ---- the first half: the plan of the problem with the momenta m on record, on a workspace of `size` numbers
abbrev pub preview : Momenta → Problem → ℕ → Previewed
preview m p size = record { began = m; planned = plan (with_momenta p m) size }

-- with a caller's seed
abbrev pub preview_from : Momenta → Problem → Float → List Float → List Float → ℕ → Previewed
preview_from m p duration rates torques size = record { began = m; planned = plan_from (with_momenta p m) duration rates torques size }

-- ---- the second half
-- a plan was answered
abbrev pub answered : Fate → Bool
answered (Ok _) = true
answered (Err why) = false

-- the path's last momenta become the record, if the record m still has the bits that the preview began from
abbrev pub start : Momenta → Previewed → Started
start m v = commit m (answered v.planned.fate) v.began (last_momenta v.planned.path)
