-- What the code keeps on its way to a list: what all samples of a step share, and a sample by its stages. Definitions only.
use Rattle.std.specs.Prelude.{ℕ, ◌+◌, ◌<◌, ◌≡◌, List, [], ◌∷◌, T, cond, Float}
use Rattle.std.specs.Float.{binary64}
use Rattle.std.specs.Float.Ieee.{sub, div, lt, le, fits}
use Rattle.common.specs.Iter.{iter}
use Rattle.common.specs.Lists.{at}
use Rattle.geom.specs.Vec as Vec
use Rattle.geom.specs.Quats.{norm3, exp_at}
use Rattle.samples.specs.Samples.{Sampled, time, attitude, rate, momentum, mean, rate_change, rotation, at_node, turned_by, onward, interpolate, time_of}
use Rattle.samples.specs.declared.PathSample.{PathSample}
use Rattle.sample_lists.specs.Lists.{Listing, listing}
use Rattle.sample_lists.specs.declared.stages.Placed.{Placed}
use Rattle.sample_lists.specs.declared.stages.Turning.{Turning}

-- ---- the step from node i: its time, the rate's change over it, the inertia times that
abbrev pub duration : List (List Float) → ℕ → Float
duration nodes i = sub binary64 (time nodes (i + 1)) (time nodes i)

abbrev pub change : List (List Float) → ℕ → List Float
change nodes i = rate_change (rate nodes i) (rate nodes (i + 1)) (duration nodes i)

abbrev pub row_of : Float → List Float → List Float → List Float
row_of dt wd u = dt ∷ at wd 0 ∷ at wd 1 ∷ at wd 2 ∷ at u 0 ∷ at u 1 ∷ at u 2 ∷ []

unfoldable pub step_row : List (List Float) → List (List Float) → ℕ → List Float
step_row j nodes i = row_of (duration nodes i) (change nodes i) (Vec.apply_tensor j (change nodes i))

-- the rows of all 16 steps
abbrev pub StepRows : List (List Float) → List (List Float) → List (List Float) → Type 0
StepRows j nodes steps = (i : ℕ) → i < 16 → Vec.row steps i ≡ step_row j nodes i

abbrev pub step_time : List (List Float) → ℕ → Float
step_time steps i = at (Vec.row steps i) 0

abbrev pub step_change : List (List Float) → ℕ → List Float
step_change steps i = at (Vec.row steps i) 1 ∷ at (Vec.row steps i) 2 ∷ at (Vec.row steps i) 3 ∷ []

abbrev pub step_torque : List (List Float) → ℕ → List Float
step_torque steps i = at (Vec.row steps i) 4 ∷ at (Vec.row steps i) 5 ∷ at (Vec.row steps i) 6 ∷ []

-- ---- the walk along the nodes, by the first 16
unfoldable pub walk : List (List Float) → Float → ℕ
walk nodes t = iter (onward nodes t) 0 15

-- all nodes up to i but the first are before t
abbrev pub Passed : List (List Float) → Float → ℕ → Type 0
Passed nodes t i = (k : ℕ) → k < i → T (fits binary64 (time nodes (k + 1))) × T (lt (time nodes (k + 1)) t)

-- ---- the stages of the sample at the time t
abbrev pub placed_by : List (List Float) → List (List Float) → Float → ℕ → Float → List Float → Placed
placed_by nodes steps t i s v = record { t = t; i = i; s = s; v = v; n = norm3 v }

abbrev pub placed_at : List (List Float) → List (List Float) → Float → ℕ → Placed
placed_at nodes steps t i =
    let s = sub binary64 t (time nodes i) in
    placed_by nodes steps t i s (rotation (rate nodes i) (step_change steps i) s)

unfoldable pub placed : List (List Float) → List (List Float) → Float → Placed
placed nodes steps t = placed_at nodes steps t (walk nodes t)

-- p is the sample at t, placed, and a walk to a later time can go on from its node
abbrev pub PlacedFor : List (List Float) → List (List Float) → Float → Placed → Type 0
PlacedFor nodes steps t p = (p ≡ placed nodes steps t) × (p.i < 16) × Passed nodes p.t p.i

unfoldable pub turning : Placed → Turning
turning p = record { t = p.t; i = p.i; s = p.s; turn = exp_at p.v p.n }

-- a sample's numbers but its attitude, which is node i's: at the time t, s after that node
abbrev pub count_within : List (List Float) → List (List Float) → List (List Float) → ℕ → Float → Float → PathSample
count_within j nodes steps i t s =
    let w = mean (rate nodes i) (rate nodes (i + 1)) (div binary64 s (step_time steps i)) in
    let h = mean (momentum nodes i) (momentum nodes (i + 1)) (div binary64 s (step_time steps i)) in
    record { t = t; q = attitude nodes i; w = w; tau = Vec.add3 (step_torque steps i) (Vec.cross w (Vec.add3 (Vec.apply_tensor j w) h)); h = h }

unfoldable pub amidst : List (List Float) → Float → List (List Float) → List (List Float) → Turning → ℕ → Sampled
amidst j tol nodes steps p index = turned_by p.turn tol (count_within j nodes steps p.i p.t p.s) index

unfoldable pub finished : List (List Float) → Float → List (List Float) → List (List Float) → Turning → ℕ → Sampled
finished j tol nodes steps p index =
    cond (le p.t (time nodes 0)) (at_node nodes 0 p.t)
    (cond (le (time nodes 16) p.t) (at_node nodes 16 p.t)
    (amidst j tol nodes steps p index))

-- sample number k of count, by its time
abbrev pub timed : List (List Float) → Float → Float → List (List Float) → ℕ → ℕ → Sampled
timed j tol duration nodes count k = interpolate j tol nodes (time_of duration count k) k

abbrev pub timed_list : List (List Float) → Float → Float → List (List Float) → ℕ → Listing
timed_list j tol duration nodes count = listing (timed j tol duration nodes count) count
