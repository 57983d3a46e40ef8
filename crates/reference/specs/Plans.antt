-- The reference of a problem, and what its answer keeps. Definitions only.
use Rattle.std.specs.Prelude.{ℕ, ◌+◌, ◌*◌, ◌≤◌, ◌≡◌, false, cond, ltb, replicate, Float, Option, Some, None, Result, Ok, Err}
use Rattle.common.specs.Floats.{one, plus_zero}
use Rattle.geom.specs.declared.Quat.{Quat}
use Rattle.problem.specs.declared.Problem.{Problem}
use Rattle.problem.specs.declared.CheckedProblem.{CheckedProblem}
use Rattle.problem.specs.Problems.{check}
use Rattle.reference_motion.specs.declared.Reference.{Reference}
use Rattle.reference_checks.specs.declared.Verdict.{Verdict}
use Rattle.reference.specs.declared.search.SearchResult.{SearchResult}
use Rattle.reference.specs.declared.plan.Planned.{Planned}
use Rattle.reference_checks.specs.Checks.{verify}
use Rattle.reference.specs.Prepare.{prepare_reference, with_times}
use Rattle.reference.specs.Search.{shortest}
use Rattle.reference_checks.specs.Promises.{Promised}
use Rattle.common.specs.Refusals.{Fate, refusal, going}
use Rattle.common.specs.declared.Refusal.{Refusal}

abbrev blank_q : Quat
blank_q = record { w = plus_zero; x = plus_zero; y = plus_zero; z = plus_zero }

unfoldable pub blank_reference : Reference
blank_reference = record {
  q0 = blank_q;
  qf = blank_q;
  phi = replicate 3 plus_zero;
  duration = plus_zero;
  steps = 0;
  inertia = replicate 9 plus_zero;
  torque_limit = replicate 3 plus_zero;
  slew = None;
  wheels = false;
  count = 0;
  axes = replicate 36 plus_zero;
  inverse = replicate 9 plus_zero;
  limits = replicate 12 plus_zero;
  momentum_limits = replicate 12 plus_zero;
  power_limits = replicate 12 plus_zero;
  start = replicate 12 plus_zero;
  total = replicate 3 plus_zero;
  null_momenta = replicate 12 plus_zero;
}

abbrev pub refuse : Refusal → Planned
refuse why = record { fate = Err why; trials = 0; samples = 0; reference = blank_reference }

-- a verified reference of a given duration
abbrev pub given_by_value : Reference → Verdict → Planned
given_by_value r v = record { fate = v.fate; trials = 1; samples = v.samples; reference = r }

-- the reference of the duration that a search found
abbrev pub searched_by : Reference → SearchResult → Planned
searched_by r x = record { fate = x.fate; trials = x.trials; samples = x.samples; reference = with_times r x.duration r.steps }

-- at a given duration, or at the shortest that the search over a grid of 64 steps finds
abbrev pub plan_prepared : Reference → Option Float → Planned
plan_prepared r (Some t) = given_by_value (with_times r t r.steps) (verify (with_times r t r.steps))
plan_prepared r None = searched_by r (shortest r 64)

abbrev pub prepared_by : Result Reference Refusal → Option Float → Planned
prepared_by (Err why) duration = refuse why
prepared_by (Ok r) duration = plan_prepared r duration

unfoldable pub plan_checked : CheckedProblem → Option Float → ℕ → Planned
plan_checked c duration steps = prepared_by (prepare_reference c one steps) duration

abbrev pub checked_by : Fate → CheckedProblem → Option Float → ℕ → Planned
checked_by (Err why) c duration steps = refuse why
checked_by (Ok _) c duration steps = plan_checked c duration steps

unfoldable pub plan : Problem → Option Float → ℕ → Planned
plan p duration steps = cond (ltb 100000 steps) (refuse (refusal 20 0)) (checked_by (check p).fate (check p).problem duration steps)

-- WHAT AN ANSWER SAYS: a bounded number of trials and samples, a table and steps in range, and of a reference that is given all that Promised says
pub record Answer (x : Planned) : Type 0 where
  pub trials : x.trials ≤ 65
  pub samples : x.samples ≤ 32 * (x.reference.steps + 2) + 2178
  pub few : x.reference.count ≤ 12
  pub steps : x.reference.steps ≤ 100000
  pub promised : x.fate ≡ going → Promised x.reference
