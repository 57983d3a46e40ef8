-- A whole mosaic: a leg from each attitude to the next, every leg a slew whose wheels start with the momenta that the leg before it ended with. Over any planner of
-- one slew. Definitions only.
use Rattle.std.specs.Prelude.{ℕ, zero, suc, ◌+◌, ◌-◌, Bool, cond, ◌||◌, List, [], ◌∷◌, ◌++◌, ltb, get_or, Float, Ok, Err}
use Rattle.std.proofs.Math.Option.{Option, some, none}
use Rattle.std.proofs.Math.ListN.{get_elem?}
use Rattle.std.specs.Float.{binary64}
use Rattle.std.specs.Float.Ieee.{add}
use Rattle.common.specs.Floats.{plus_zero}
use Rattle.common.specs.Iter.{iter}
use Rattle.common.specs.Lists.{at}
use Rattle.geom.specs.declared.Quat.{Quat}
use Rattle.problem.specs.declared.Momenta.{Momenta}
use Rattle.problem.specs.declared.Problem.{Problem}
use Rattle.planner.specs.Plans.{refused}
use Rattle.planner.specs.declared.Planned.{Planned}
use Rattle.wheel_momenta.specs.Successive.{last_momenta, with_momenta}
use Rattle.mosaic.specs.declared.Cursor.{Cursor}
use Rattle.common.specs.Refusals.{Fate, refusal, going}
use Rattle.common.specs.declared.Refusal.{Refusal}

-- any planner of one slew: what it answers for a problem. `Ways.planner_by` has ours, on a workspace of a given size.
abbrev pub Planner : Type 0
Planner = Problem → Planned

-- ---- a leg's problem

-- the problem p between other attitudes
abbrev pub with_ends : Problem → Quat → Quat → Problem
with_ends p from to = record {
  q0 = from;
  qf = to;
  inertia = p.inertia;
  torque_limit = p.torque_limit;
  slew = p.slew;
  weights = p.weights;
  norm_tolerance = p.norm_tolerance;
  tie_tolerance = p.tie_tolerance;
  actuators = p.actuators;
  momenta = p.momenta;
}

-- the mosaic's problem for one leg: its attitudes, and the momenta m that its wheels start with. The problem's own attitudes and momenta are not read.
abbrev pub leg_problem : Problem → Quat → Quat → Momenta → Problem
leg_problem p from to m = with_momenta (with_ends p from to) m

-- ---- how a mosaic stands

-- before the first leg, whose wheels start with the momenta m
abbrev pub start : Momenta → Cursor
start m = record { index = 0; momenta = m; duration = plus_zero; runs = 0; fate = going; refused_runs = 0 }

-- a leg was answered: it alone is added to the sums, and the next one starts with the momenta that it ended with
abbrev pub took : Cursor → Planned → Cursor
took c leg = record {
  index = c.index + 1;
  momenta = last_momenta leg.path;
  duration = add binary64 c.duration leg.path.duration;
  runs = c.runs + leg.runs;
  fate = going;
  refused_runs = 0;
}

-- a leg was refused: the legs before it stand, and the sums are theirs
abbrev pub halted : Cursor → Refusal → ℕ → Cursor
halted c why runs = record {
  index = c.index;
  momenta = c.momenta;
  duration = c.duration;
  runs = c.runs;
  fate = Err why;
  refused_runs = runs;
}

abbrev pub moved_by : Fate → Cursor → Planned → Cursor
moved_by (Ok _) c leg = took c leg
moved_by (Err why) c leg = halted c why leg.runs

-- after the planner's answer for the next leg
unfoldable pub moved : Cursor → Planned → Cursor
moved c leg = moved_by leg.fate c leg

-- ---- ONE LEG: a turn of a cursor that a caller holds

-- the most runs of one leg, by either way: 29 tries of 7,802 (`WayLaws.runs_most`)
abbrev pub most_runs : ℕ
most_runs = 226258

-- more than 63 legs can have
abbrev pub full_runs_value : ℕ
full_runs_value = 15000000

-- No further leg: a 64th would need a 65th attitude. (No cursor that 63 legs lead to has so many runs: such a one is forged, and its refusal is free.)
abbrev pub is_full : Cursor → Bool
is_full c = ltb 62 c.index || ltb full_runs_value c.runs

-- what is answered for the leg where the mosaic goes on: 23, or the planner's answer
unfoldable pub opened : Planner → Problem → Cursor → Quat → Quat → Planned
opened plan p c from to = cond (is_full c) (refused (refusal 23 0) 0) (plan (leg_problem p from to c.momenta))

-- after a refusal nothing is planned: its number and place, and no run
abbrev pub planned_by : Fate → Planner → Problem → Cursor → Quat → Quat → Planned
planned_by (Ok _) plan p c from to = opened plan p c from to
planned_by (Err why) plan p c from to = refused why 0

abbrev pub planned : Planner → Problem → Cursor → Quat → Quat → Planned
planned plan p c from to = planned_by c.fate plan p c from to

-- and the cursor stays
abbrev pub next_by : Fate → Cursor → Planned → Cursor
next_by (Ok _) c leg = moved c leg
next_by (Err why) c leg = c

abbrev pub next : Planner → Problem → Cursor → Quat → Quat → Cursor
next plan p c from to = next_by c.fate c (planned plan p c from to)

-- ---- THE MOSAIC: the cursor and the answered legs, in turn
pub record Flight : Type 0 where
  pub cursor : Cursor
  pub legs : List Planned

abbrev pub added_by : Fate → List Planned → Planned → List Planned
added_by (Ok _) legs leg = legs ++ leg ∷ []
added_by (Err why) legs leg = legs

abbrev pub flew_by : Fate → Flight → Planned → Flight
flew_by (Ok _) f leg = record { cursor = moved f.cursor leg; legs = added_by leg.fate f.legs leg }
flew_by (Err why) f leg = f

-- what the planner answers for the leg from tile i to the next one, from the momenta m
abbrev pub leg_from : Planner → Problem → (ℕ → Quat) → ℕ → Momenta → Planned
leg_from plan p tile i m = plan (leg_problem p (tile i) (tile (i + 1)) m)

-- one leg more, or nothing after a refusal
unfoldable pub fly : Planner → Problem → (ℕ → Quat) → Flight → Flight
fly plan p tile f = flew_by f.cursor.fate f (leg_from plan p tile f.cursor.index f.cursor.momenta)

-- n legs over the tiles 0 to n, from the caller's momenta m
unfoldable pub flown : Planner → Problem → (ℕ → Quat) → Momenta → ℕ → Flight
flown plan p tile m n = iter (λ _. fly plan p tile) (record { cursor = start m; legs = [] }) n

-- the momenta that leg i starts with: the first leg the caller's, each later one those that the leg before it ended with
abbrev pub last_or : Momenta → Option Planned → Momenta
last_or m (some leg) = last_momenta leg.path
last_or m none = m

abbrev pub momenta_at : Momenta → List Planned → ℕ → Momenta
momenta_at m legs zero = m
momenta_at m legs (suc i) = last_or m (get_elem? legs i)

-- 23: fewer than 2 attitudes, or more than 64
abbrev pub count_fate : ℕ → Fate
count_fate count = cond (ltb count 2) (Err (refusal 23 0)) (cond (ltb 64 count) (Err (refusal 23 0)) going)

-- no legs, the sums 0
abbrev pub nothing : Momenta → Refusal → Flight
nothing m why = record { cursor = halted (start m) why 0; legs = [] }

abbrev pub whole_by_value : Fate → Planner → Problem → (ℕ → Quat) → Momenta → ℕ → Flight
whole_by_value (Ok _) plan p tile m count = flown plan p tile m (count - 1)
whole_by_value (Err why) plan p tile m count = nothing m why

-- the whole mosaic of `count` tiles
unfoldable pub whole : Planner → Problem → (ℕ → Quat) → Momenta → ℕ → Flight
whole plan p tile m count = whole_by_value (count_fate count) plan p tile m count

-- ---- the tiles as rows of four numbers, scalar first
abbrev pub quat_of : List Float → Quat
quat_of v = record { w = at v 0; x = at v 1; y = at v 2; z = at v 3 }

abbrev pub tile_of : List (List Float) → ℕ → Quat
tile_of tiles i = quat_of (get_or tiles i [])
