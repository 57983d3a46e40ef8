-- The ladder of durations: which are tried, in which order, and the answer that stands at the end. Definitions only.
use Rattle.std.specs.Prelude.{ℕ, ◌+◌, Bool, true, false, cond, eqb, Float, Ok, Err}
use Rattle.std.specs.Float.{binary64}
use Rattle.std.specs.Float.Ieee.{add, mul, of_bits}
use Rattle.common.specs.Floats.{plus_zero}
use Rattle.common.specs.Iter.{iter}
use Rattle.geom.specs.Vec.{half, two}
use Rattle.problem.specs.Problems.{check}
use Rattle.problem.specs.declared.Problem.{Problem}
use Rattle.planner.specs.Plans as Plans
use Rattle.planner.specs.declared.Planned.{Planned}
use Rattle.eigenaxis_seed.specs.Seeds.{seed, turn_of}
use Rattle.eigenaxis_seed.specs.declared.Shape.{Shape}
use Rattle.eigenaxis_seed.specs.declared.Seeding.{Seeding}
use Rattle.eigenaxis.specs.declared.Ladder.{Ladder}
use Rattle.eigenaxis.specs.declared.Eigenaxis.{Eigenaxis}
use Rattle.common.specs.Refusals.{Fate}

-- the problem with its weights at 0: nothing reads those that the user gives
unfoldable pub unweighted : Problem → Problem
unweighted p = record {
  q0 = p.q0;
  qf = p.qf;
  inertia = p.inertia;
  torque_limit = p.torque_limit;
  slew = p.slew;
  weights = record { time = plus_zero; control = plus_zero; energy = plus_zero; pointing = plus_zero; smoothness = plus_zero; momentum = plus_zero };
  norm_tolerance = p.norm_tolerance;
  tie_tolerance = p.tie_tolerance;
  actuators = p.actuators;
  momenta = p.momenta;
}

-- ---- one try

-- the eigenaxis seed of the duration t
unfoldable pub seed_at : Problem → Shape → Float → Seeding
seed_at q shape t = seed (check q).problem shape (turn_of (check q).problem) t

-- the planner's answer from a seed, `size` numbers being lent
abbrev pub tried : Problem → ℕ → Float → Seeding → Planned
tried q size t s = Plans.plan_from q t s.rates s.torques size

-- t was passed over, or refused after so many runs: the answer that stands stays
abbrev pub passed : Ladder → Float → ℕ → Ladder
passed s t runs = record { climbing = s.climbing; low = t; next = mul binary64 two t; at = s.at; runs = s.runs + runs; planned = s.planned }

-- t was answered: that answer stands
abbrev pub reached : Ladder → Float → Planned → Ladder
reached s t r = record { climbing = false; low = s.low; next = s.next; at = t; runs = s.runs + r.runs; planned = r }

abbrev pub rung_by : Fate → Ladder → Float → Planned → Ladder
rung_by (Ok _) s t r = reached s t r
rung_by (Err why) s t r = passed s t r.runs

-- a seed that would be held to a limit is passed over: it cannot land
abbrev pub rung_of : Bool → Problem → ℕ → Ladder → Float → Seeding → Ladder
rung_of fits q size s t seeding = cond fits (rung_by (tried q size t seeding).fate s t (tried q size t seeding)) (passed s t 0)

unfoldable pub rung : Problem → Shape → ℕ → Ladder → Float → Ladder
rung q shape size s t = rung_of (seed_at q shape t).fits q size s t (seed_at q shape t)

-- ---- the ladder

-- 10,000 s; and that halved 20 times, about 0.0095 s
abbrev pub longest : Float
longest = of_bits binary64 0x40c3_8800_0000_0000

abbrev pub shortest : Float
shortest = of_bits binary64 0x3f83_8800_0000_0000

-- a run was begun
abbrev pub begun : ℕ → Bool
begun runs = cond (eqb runs 0) false true

abbrev pub start_of : Planned → Ladder
start_of r = record { climbing = begun r.runs; low = plus_zero; next = shortest; at = longest; runs = r.runs; planned = r }

-- the longest duration is tried first: its refusal is told where no other is answered, and a refusal before any run ends the ladder
unfoldable pub start : Problem → Shape → ℕ → Ladder
start q shape size = start_of (tried q size longest (seed_at q shape longest))

-- the climb: the next duration, until one is answered
unfoldable pub climb_turn : Problem → Shape → ℕ → ℕ → Ladder → Ladder
climb_turn q shape size k s = cond s.climbing (rung q shape size s s.next) s

-- halfway between the duration passed over or refused last and that of the answer
unfoldable pub middle : Ladder → Float
middle s = mul binary64 half (add binary64 s.low s.at)

-- the narrowing
abbrev pub narrow_by : Fate → Problem → Shape → ℕ → Ladder → Ladder
narrow_by (Ok _) q shape size s = rung q shape size s (middle s)
narrow_by (Err why) q shape size s = s

unfoldable pub narrow_turn : Problem → Shape → ℕ → ℕ → Ladder → Ladder
narrow_turn q shape size k s = narrow_by s.planned.fate q shape size s

-- 20 durations up to 5,000 s, then 8 in between
unfoldable pub ladder : Problem → Shape → ℕ → Ladder
ladder q shape size = iter (narrow_turn q shape size) (iter (climb_turn q shape size) (start q shape size) 20) 8

abbrev pub answer_of : Ladder → Eigenaxis
answer_of s = record { at = s.at; runs = s.runs; planned = s.planned }

-- THE EIGENAXIS PLAN of a problem, `size` numbers being lent
unfoldable pub plan_eigenaxis : Problem → Shape → ℕ → Eigenaxis
plan_eigenaxis p shape size = answer_of (ladder (unweighted p) shape size)

-- in the form of the planner's entries: the runs are those of every try
abbrev pub counted : Eigenaxis → Planned
counted e = record { fate = e.planned.fate; runs = e.runs; path = e.planned.path }
