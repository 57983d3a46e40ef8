-- The planner's two entries as definitions: the checks in the specification's order, the seed's decision, the search, the end checks. Definitions only.
use Rattle.std.specs.Prelude.{ℕ, Bool, true, cond, ◌&&◌, List, eqb, ltb, length, replicate, Float, Ok, Err}
use Rattle.common.specs.Floats.{plus_zero}
use Rattle.common.specs.Answer.{Answer, Given}
use Rattle.common.specs.Answer as Answers
use Rattle.common.specs.Lists.{at}
use Rattle.geom.specs.Vec.{tensor, is_positive_value}
use Rattle.actuators.specs.Maps.{control_dim}
use Rattle.profile.specs.Profiles.{bang_coast_bang}
use Rattle.profile.specs.Seeds.{sample_seed}
use Rattle.profile.specs.declared.Profile.{Profile}
use Rattle.profile.specs.declared.Profiled.{Profiled}
use Rattle.profile.specs.declared.Seed.{Seed}
use Rattle.problem.specs.Problems.{check}
use Rattle.problem.specs.declared.Problem.{Problem}
use Rattle.problem.specs.declared.CheckedProblem.{CheckedProblem}
use Rattle.forward.specs.Runs.{blank_node}
use Rattle.held_counts.specs.Counts.{none_held}
use Rattle.seeds.specs.Seeds.{served, seed_decision, seed_held}
use Rattle.scvx.specs.Search.{search, room}
use Rattle.scvx.specs.declared.Found.{Found}
use Rattle.end_checks.specs.Ends.{end_fate}
use Rattle.planner.specs.declared.Path.{Path}
use Rattle.planner.specs.declared.Planned.{Planned}
use Rattle.common.specs.Refusals.{Fate, refusal, going}
use Rattle.common.specs.declared.Refusal.{Refusal}

-- ---- answers

-- no path: zeros
abbrev pub blank_path : Path
blank_path = record { duration = plus_zero; controls = 0; wheels = 0; iterations = 0; max_defect = plus_zero; z = replicate 193 plus_zero; nodes = replicate 17 blank_node; held = none_held }

abbrev pub refused : Refusal → ℕ → Planned
refused why runs = record { fate = Err why; runs = runs; path = blank_path }

-- how many controls were held, place by place in a row, in the projection that made the decision: the trial's, or the seed's, whose counts are `held`
abbrev pub held_of : Found → List ℕ → List ℕ
held_of f held = cond f.tried f.held held

-- the path of what was found
abbrev pub path_of : CheckedProblem → Found → List ℕ → Path
path_of p f held = record {
  duration = at f.z 0;
  controls = control_dim p.map;
  wheels = p.map.wheel_count;
  iterations = f.iterations;
  max_defect = f.run.defect;
  z = f.z;
  nodes = f.run.nodes;
  held = held_of f held;
}

-- ---- the stages, last first

-- the end checks
abbrev pub ended_by_value : Fate → CheckedProblem → Found → List ℕ → Planned
ended_by_value (Err why) p f held = refused why f.runs
ended_by_value (Ok _) p f held = record { fate = going; runs = f.runs; path = path_of p f held }

-- a run of the search was refused, or it found a decision
abbrev pub found_by : Fate → CheckedProblem → Found → List ℕ → Planned
found_by (Err why) p f held = refused why f.runs
found_by (Ok _) p f held = ended_by_value (end_fate p f.run) p f held

unfoldable pub answered : CheckedProblem → Found → List ℕ → Planned
answered p f held = found_by f.fate p f held

-- the seed's decision of a checked problem
abbrev pub seed_of : CheckedProblem → Float → List Float → List Float
seed_of p duration torques = seed_decision p.map p.torque_limit duration torques

-- how many of its allocated controls were held
abbrev pub seed_held_of : CheckedProblem → Float → List Float → List ℕ
seed_held_of p duration torques = seed_held p.map p.torque_limit duration torques

-- 10: the seed has 17 nodes and a duration that is finite and above 0; then 9: the lent workspace holds `size` numbers
unfoldable pub seeded : CheckedProblem → Bool → Float → List Float → ℕ → Planned
seeded p counted duration torques size =
    cond (counted && is_positive_value duration)
    (cond (ltb size (room p)) (refused (refusal 9 0) 0) (answered p (search p (seed_of p duration torques)) (seed_held_of p duration torques)))
    (refused (refusal 10 0) 0)

-- 8, and 6 at place 1
abbrev pub served_by : Fate → CheckedProblem → Bool → Float → List Float → ℕ → Planned
served_by (Err why) p counted duration torques size = refused why 0
served_by (Ok _) p counted duration torques size = seeded p counted duration torques size

unfoldable pub with_seed : CheckedProblem → Bool → Float → List Float → ℕ → Planned
with_seed p counted duration torques size = served_by (served p.map) p counted duration torques size

-- ---- the entry with a caller's seed: a duration, 17 rates and 17 torques, three numbers a node. Of the rates only the count is read.

-- 17 nodes
abbrev pub counted : List Float → List Float → Bool
counted rates torques = eqb (length rates) 51 && eqb (length torques) 51

-- 1 to 6 and 22
abbrev pub plan_from_by : Fate → CheckedProblem → Float → List Float → List Float → ℕ → Planned
plan_from_by (Err why) p duration rates torques size = refused why 0
plan_from_by (Ok _) p duration rates torques size = with_seed p (counted rates torques) duration torques size

unfoldable pub plan_from : Problem → Float → List Float → List Float → ℕ → Planned
plan_from p duration rates torques size = plan_from_by (check p).fate (check p).problem duration rates torques size

-- ---- our entry: the profile's seed

-- 7, and 11 at place 0 of the profile
unfoldable pub profiled : CheckedProblem → Profiled
profiled p = bang_coast_bang p.q0 p.qf (tensor p.inertia) p.torque_limit p.slew p.tie_tolerance

abbrev pub seeded_by : CheckedProblem → Seed → ℕ → Planned
seeded_by p s size = with_seed p true s.duration s.torques size

abbrev pub profiled_by : Fate → CheckedProblem → Profile → ℕ → Planned
profiled_by (Err why) p profile size = refused why 0
profiled_by (Ok _) p profile size = seeded_by p (sample_seed profile) size

unfoldable pub with_profile : CheckedProblem → ℕ → Planned
with_profile p size = profiled_by (profiled p).fate p (profiled p).profile size

abbrev pub plan_by : Fate → CheckedProblem → ℕ → Planned
plan_by (Err why) p size = refused why 0
plan_by (Ok _) p size = with_profile p size

unfoldable pub plan : Problem → ℕ → Planned
plan p size = plan_by (check p).fate (check p).problem size

-- ---- the lent workspace at exit: untouched where no forward run began, else every number +0
unfoldable pub leaves : ℕ → List Float → List Float
leaves runs ws = cond (eqb runs 0) ws (replicate (length ws) plus_zero)

-- ---- the answer: a path, or number, place and runs
abbrev answer_by : Fate → ℕ → Path → Answer Path
answer_by (Ok _) runs path = Given path
answer_by (Err why) runs path = Answers.Refused why.number why.place runs

abbrev pub answer : Planned → Answer Path
answer r = answer_by r.fate r.runs r.path
