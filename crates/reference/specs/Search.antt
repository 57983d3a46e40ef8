-- The shortest duration that doubling and bisection find. Definitions only.
use Rattle.std.specs.Prelude.{ℕ, ◌+◌, ◌*◌, ◌≤◌, ◌≡◌, true, false, cond, Float, Ok, Err}
use Rattle.std.specs.Float.{binary64}
use Rattle.std.specs.Float.Ieee.{add, mul, of_bits}
use Rattle.common.specs.Floats.{plus_zero}
use Rattle.common.specs.Iter.{iter}
use Rattle.geom.specs.Vec.{half, two}
use Rattle.reference_motion.specs.declared.Reference.{Reference}
use Rattle.reference.specs.declared.search.Trials.{Trials}
use Rattle.reference.specs.declared.search.SearchResult.{SearchResult}
use Rattle.reference.specs.Prepare.{with_times}
use Rattle.reference_checks.specs.Checks.{verify}
use Rattle.reference_checks.specs.Promises.{Promised}
use Rattle.common.specs.Refusals.{Fate, refusal, going}
use Rattle.common.specs.declared.Refusal.{Refusal}

-- ---- one trial

abbrev pub record_refusal : Trials → Float → Float → Refusal → ℕ → Trials
record_refusal s t next why n = record { found = s.found; low = t; next = next; best = s.best; fate = Err why; count = s.count + 1; samples = s.samples + n }

abbrev pub record_pass : Trials → Float → ℕ → Trials
record_pass s t n = record { found = true; low = s.low; next = s.next; best = t; fate = going; count = s.count + 1; samples = s.samples + n }

abbrev pub trial_by : Fate → ℕ → Trials → Float → Float → Trials
trial_by (Ok _) n s t next = record_pass s t n
trial_by (Err why) n s t next = record_refusal s t next why n

-- the duration t, verified at so many steps
unfoldable pub trial : Reference → ℕ → Trials → Float → Float → Trials
trial r steps s t next = trial_by (verify (with_times r t steps)).fate (verify (with_times r t steps)).samples s t next

-- ---- turns

unfoldable pub lengthen : Reference → ℕ → Float → Trials → Trials
lengthen r steps factor s = cond s.found s (trial r steps s s.next (mul binary64 factor s.next))

abbrev pub lengthen_turn : Reference → ℕ → Float → ℕ → Trials → Trials
lengthen_turn r steps factor k s = lengthen r steps factor s

unfoldable pub bisect : Reference → ℕ → Trials → Trials
bisect r steps s = cond s.found (trial r steps s (mul binary64 half (add binary64 s.low s.best)) s.next) s

abbrev pub bisect_turn : Reference → ℕ → ℕ → Trials → Trials
bisect_turn r steps k s = bisect r steps s

-- ---- the search

-- 10,000 / 2^20 s
abbrev pub first_duration : Float
first_duration = of_bits binary64 0x3f83_8800_0000_0000

-- 1 + 1/64
abbrev pub small_factor : Float
small_factor = of_bits binary64 0x3ff0_4000_0000_0000

abbrev pub initial_trials : Trials
initial_trials = record { found = false; low = plus_zero; next = first_duration; best = plus_zero; fate = Err (refusal 10 0); count = 0; samples = 0 }

abbrev pub fine_trials : Trials → Trials
fine_trials s = record { found = false; low = s.low; next = s.best; best = s.best; fate = Err (refusal 10 0); count = s.count; samples = s.samples }

abbrev pub result_of : Trials → SearchResult
result_of s = record { fate = s.fate; duration = s.best; trials = s.count; samples = s.samples }

-- on the coarse grid: 21 doublings, then 12 bisections
unfoldable pub coarse_trials : Reference → ℕ → Trials
coarse_trials r coarse = iter (bisect_turn r coarse) (iter (lengthen_turn r coarse two) initial_trials 21) 12

-- at every step: the coarse grid's duration, or a little longer
unfoldable pub finish : Reference → Trials → SearchResult
finish r s = cond s.found (result_of (iter (lengthen_turn r r.steps small_factor) (fine_trials s) 32)) (result_of s)

unfoldable pub shortest : Reference → ℕ → SearchResult
shortest r coarse = finish r (coarse_trials r coarse)

-- ---- counts

-- there is room for another trial
pub record Room (s : Trials) : Type 0 where
  pub trials : s.count ≤ 1000
  pub samples : s.samples ≤ 10000000

-- there is room for n trials
pub record RoomFor (s : Trials) (n : ℕ) : Type 0 where
  pub trials : s.count + n ≤ 1000
  pub samples : s.samples + 100002 * n ≤ 10000000

-- the search x made at most n trials more than the search s
pub record Grown (s x : Trials) (n : ℕ) : Type 0 where
  pub trials : x.count ≤ s.count + n
  pub samples : x.samples ≤ s.samples + 100002 * n

-- ---- the answer: the definition's; at most 33 trials at `coarse` steps and 32 at all of them, each of at most two samples more than it has steps; a duration that is given was verified
pub record Shortest (r : Reference) (coarse : ℕ) (x : SearchResult) : Type 0 where
  pub is : x ≡ shortest r coarse
  pub trials : x.trials ≤ 65
  pub samples : x.samples ≤ 33 * (coarse + 2) + 32 * (r.steps + 2)
  pub promised : x.fate ≡ going → Promised (with_times r x.duration r.steps)
