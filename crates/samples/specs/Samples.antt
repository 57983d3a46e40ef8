-- One sample of a path, as `densify` and `interpolate` of scvx.rs have it. Definitions only.
use Rattle.std.specs.Prelude.{ℕ, ◌+◌, cond, List, [], ◌∷◌, pos, nat_lt, Float, Option, Some, None, Result, Ok, Err}
use Rattle.std.specs.Float.{binary64}
use Rattle.std.specs.Float.Ieee.{sub, mul, div, lt, le, of_int}
use Rattle.common.specs.Floats as Floats
use Rattle.common.specs.Iter.{iter}
use Rattle.common.specs.Lists.{at}
use Rattle.geom.specs.Vec as Vec
use Rattle.geom.specs.Quats.{quat, quat_mul, exp_so3, normalized}
use Rattle.geom.specs.declared.Quat.{Quat}
use Rattle.samples.specs.Counts.{sample_count}
use Rattle.samples.specs.declared.PathSample.{PathSample}
use Rattle.common.specs.Refusals.{refusal}
use Rattle.common.specs.declared.Refusal.{Refusal}

-- what a request for a sample gives: a sample, or a refusal
abbrev pub Sampled : Type 0
Sampled = Result PathSample Refusal

abbrev pub refused : ℕ → ℕ → Sampled
refused n place = Err (refusal n place)

abbrev pub given : PathSample → Sampled
given s = Ok s

-- ---- node k of a path, by its row: time, attitude, rate, torque, body momentum; the wheel momenta after them are not read
abbrev pub time : List (List Float) → ℕ → Float
time nodes k = at (Vec.row nodes k) 0

abbrev pub attitude : List (List Float) → ℕ → Quat
attitude nodes k = quat (at (Vec.row nodes k) 1) (at (Vec.row nodes k) 2) (at (Vec.row nodes k) 3) (at (Vec.row nodes k) 4)

abbrev pub rate : List (List Float) → ℕ → List Float
rate nodes k = at (Vec.row nodes k) 5 ∷ at (Vec.row nodes k) 6 ∷ at (Vec.row nodes k) 7 ∷ []

abbrev pub torque : List (List Float) → ℕ → List Float
torque nodes k = at (Vec.row nodes k) 8 ∷ at (Vec.row nodes k) 9 ∷ at (Vec.row nodes k) 10 ∷ []

abbrev pub momentum : List (List Float) → ℕ → List Float
momentum nodes k = at (Vec.row nodes k) 11 ∷ at (Vec.row nodes k) 12 ∷ at (Vec.row nodes k) 13 ∷ []

-- the sample that is node k, at its own time t
abbrev pub node_sample : List (List Float) → ℕ → Float → PathSample
node_sample nodes k t = record { t = t; q = attitude nodes k; w = rate nodes k; tau = torque nodes k; h = momentum nodes k }

unfoldable pub at_node : List (List Float) → ℕ → Float → Sampled
at_node nodes k t = given (node_sample nodes k t)

-- ---- between two nodes

-- the weighted mean, the fraction f of the way from a to b
unfoldable pub mean : List Float → List Float → Float → List Float
mean a b f = Vec.add3 (Vec.scale3 a (sub binary64 Floats.one f)) (Vec.scale3 b f)

-- the rate's change from a to b over the time dt
unfoldable pub rate_change : List Float → List Float → Float → List Float
rate_change a b dt = Vec.scale3 (Vec.sub3 b a) (div binary64 Floats.one dt)

-- the rotation over the time s from the rate w, which changes by wd
unfoldable pub rotation : List Float → List Float → Float → List Float
rotation w wd s = Vec.add3 (Vec.scale3 w s) (Vec.scale3 wd (mul binary64 (mul binary64 Vec.half s) s))

-- the sample s with the attitude q
abbrev pub normed_by : Option Quat → PathSample → ℕ → Sampled
normed_by None s index = refused 5 index
normed_by (Some q) s index = given (record { t = s.t; q = q; w = s.w; tau = s.tau; h = s.h })

abbrev pub turned_by : Option Quat → Float → PathSample → ℕ → Sampled
turned_by None tol s index = refused 11 index
turned_by (Some e) tol s index = normed_by (normalized tol (quat_mul s.q e)) s index

-- the sample s, its attitude turned by the rotation vector v
unfoldable pub turned : Float → PathSample → List Float → ℕ → Sampled
turned tol s v index = turned_by (exp_so3 v) tol s index

-- how far t lies on the way from node i to the next
abbrev pub fraction : List (List Float) → ℕ → Float → Float
fraction nodes i t = div binary64 (sub binary64 t (time nodes i)) (sub binary64 (time nodes (i + 1)) (time nodes i))

-- at the time t, between node i and the next: rate and momentum by their weighted means, torque by Euler's equations, attitude by a constant change of rate
unfoldable pub between : List (List Float) → Float → List (List Float) → ℕ → Float → ℕ → Sampled
between j tol nodes i t index =
    let dt = sub binary64 (time nodes (i + 1)) (time nodes i) in
    let s = sub binary64 t (time nodes i) in
    let w = mean (rate nodes i) (rate nodes (i + 1)) (fraction nodes i t) in
    let h = mean (momentum nodes i) (momentum nodes (i + 1)) (fraction nodes i t) in
    let wd = rate_change (rate nodes i) (rate nodes (i + 1)) dt in
    turned tol (record { t = t; q = attitude nodes i; w = w; tau = Vec.euler_lhs j wd w h; h = h }) (rotation (rate nodes i) wd s) index

-- ---- at any time

-- one step of the walk along the nodes: on to the next where that is before t
abbrev pub onward : List (List Float) → Float → ℕ → ℕ → ℕ
onward nodes t k i = cond (lt (time nodes (i + 1)) t) (i + 1) i

-- the node where the walk ends, after at most 16 steps
unfoldable pub earlier : List (List Float) → Float → ℕ
earlier nodes t = iter (onward nodes t) 0 16

-- Up to the first node's time it is that node, from the last one's on the last. Else node 16 is not before t, so the walk ends by node 15 and has a next
-- node, whatever the times are: a NaN is before nothing.
unfoldable pub interpolate : List (List Float) → Float → List (List Float) → Float → ℕ → Sampled
interpolate j tol nodes t index =
    cond (le t (time nodes 0)) (at_node nodes 0 t)
    (cond (le (time nodes 16) t) (at_node nodes 16 t)
    (between j tol nodes (earlier nodes t) t index))

-- the time of sample index of count, which divide the duration evenly
unfoldable pub time_of : Float → ℕ → ℕ → Float
time_of duration count index = div binary64 (mul binary64 duration (of_int binary64 (pos index))) (sub binary64 (of_int binary64 (pos count)) Floats.one)

abbrev pub sample_by : Option ℕ → List (List Float) → Float → Float → List (List Float) → ℕ → Sampled
sample_by None j tol duration nodes index = refused 20 0
sample_by (Some count) j tol duration nodes index = cond (nat_lt index count) (interpolate j tol nodes (time_of duration count index) index) (refused 20 1)

-- sample number index of a path, from 0
unfoldable pub sample : List (List Float) → Float → Float → List (List Float) → ℕ → Float → ℕ → Sampled
sample j tol duration nodes requested alpha index = sample_by (sample_count duration requested alpha) j tol duration nodes index
