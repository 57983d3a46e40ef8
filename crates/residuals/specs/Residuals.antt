-- The residuals of a decision, term by term in the order of scvx.rs. Definitions only.
use Rattle.std.specs.Prelude.{ℕ, ◌+◌, ◌*◌, Bool, cond, List, [], ◌∷◌, set, replicate, Float, Option, Some, None, Ok, Err}
use Rattle.std.specs.Float.{binary64}
use Rattle.std.specs.Float.Ieee.{mul, div, lt, of_bits}
use Rattle.common.specs.Floats as Floats
use Rattle.common.specs.Iter.{iter}
use Rattle.common.specs.Lists.{at}
use Rattle.float.specs.Sqrt.{sqrt}
use Rattle.geom.specs.Vec as Vec
use Rattle.geom.specs.Quats.{rotation_between}
use Rattle.geom.specs.declared.Quat.{Quat}
use Rattle.actuators.specs.Maps.{control_dim}
use Rattle.problem.specs.declared.Weights.{Weights}
use Rattle.problem.specs.declared.CheckedProblem.{CheckedProblem}
use Rattle.forward.specs.Decisions.{step_time}
use Rattle.forward.specs.Runs.{run_of}
use Rattle.forward.specs.declared.Node.{Node}
use Rattle.forward.specs.declared.Run.{Run}
use Rattle.forward.specs.Runs.{node_at}
use Rattle.residuals.specs.Sums.{norm_slice, effort, energy, smooth}
use Rattle.residuals.specs.declared.Target.{Target}
use Rattle.residuals.specs.declared.ResidualVector.{ResidualVector}
use Rattle.common.specs.Refusals.{Fate, refusal, going}

-- the turn that is left from the attitude q to qf
abbrev pub error_of : Quat → Quat → Option (Float × Float × Float)
error_of q qf = rotation_between q qf

-- ---- the residuals stand in a list of 79, whose numbers past the count are +0

-- three numbers from place i on
abbrev pub put3 : List Float → ℕ → List Float → List Float
put3 r i v = set (set (set r i (at v 0)) (i + 1) (at v 1)) (i + 2) (at v 2)

-- an 11 in a residual has place 0; a refused run's number and place are handed on
abbrev pub refused_residuals : ℕ → ℕ → ResidualVector
refused_residuals n place = record { fate = Err (refusal n place); count = 0; r = replicate 79 Floats.plus_zero }

-- 400.0
abbrev pub end_scale : Float
end_scale = of_bits binary64 0x4079_0000_0000_0000

-- the first six: the attitude error at the end and the rate there
unfoldable pub ends : List Float → List Float → List Float
ends error rate = put3 (put3 (replicate 79 Floats.plus_zero) 0 (Vec.scale3 error end_scale)) 3 (Vec.scale3 rate end_scale)

-- ---- the last five terms

-- 0.02
abbrev pub time_scale : Float
time_scale = of_bits binary64 0x3f94_7ae1_47ae_147b

abbrev pub time_term : Weights → Float → Float
time_term w duration = mul binary64 (mul binary64 (sqrt binary64 w.time) duration) time_scale

-- the root of a weight times the root of a sum
abbrev pub weighted : Float → Float → Float
weighted weight x = mul binary64 (sqrt binary64 weight) (sqrt binary64 x)

-- time, control, energy, smoothness and momentum, from place i on; the momentum sum of no wheels is +0
unfoldable pub closing : Target → List Float → List Node → ℕ → List Float → List Float
closing t z ns i r =
    set
    (set
    (set
    (set
    (set r i (time_term t.weights (at z 0)))
    (i + 1) (weighted t.weights.control (mul binary64 (effort z (16 * t.controls)) (step_time z))))
    (i + 2) (weighted t.weights.energy (energy ns (step_time z))))
    (i + 3) (weighted t.weights.smoothness (smooth ns (step_time z))))
    (i + 4) (mul binary64 (sqrt binary64 t.weights.momentum) (norm_slice (node_at ns 16).hw t.wheels))

-- ---- the rows of the nodes

-- residuals so far, with a pointing weight
abbrev pub pointing : List Float → ResidualVector
pointing r = record { fate = going; count = 79; r = r }

-- Node k's rows with a pointing weight: its keep-out row at 6 + 4k, which stays +0.0, and its pointing error after it, scaled.
abbrev pub point_by : Option (Float × Float × Float) → Float → ℕ → List Float → ResidualVector
point_by None scale k r = refused_residuals 11 0
point_by (Some (x, y, z)) scale k r = pointing (put3 r (7 + 4 * k) (Vec.scale3 (x ∷ y ∷ z ∷ []) scale))

-- a refused logarithm ends the rows
abbrev pub point_turn_by : Fate → Float → List Node → Quat → ℕ → ResidualVector → ResidualVector
point_turn_by (Err why) scale ns qf k e = e
point_turn_by (Ok _) scale ns qf k e = point_by (error_of (node_at ns k).q qf) scale k e.r

unfoldable pub point_turn : Float → List Node → Quat → ℕ → ResidualVector → ResidualVector
point_turn scale ns qf k e = point_turn_by e.fate scale ns qf k e

-- the 17 nodes' rows
unfoldable pub pointed : Float → List Node → Quat → List Float → ResidualVector
pointed scale ns qf r = iter (point_turn scale ns qf) (pointing r) 17

abbrev pub close_by : Fate → Target → List Float → List Node → ResidualVector → ResidualVector
close_by (Err why) t z ns e = e
close_by (Ok _) t z ns e = pointing (closing t z ns 74 e.r)

-- 17.0
abbrev pub seventeen : Float
seventeen = of_bits binary64 0x4031_0000_0000_0000

-- a node's share of the pointing weight
abbrev pub point_scale : Weights → Float
point_scale w = sqrt binary64 (div binary64 w.pointing seventeen)

unfoldable pub with_pointing : Target → List Float → List Node → List Float → ResidualVector
with_pointing t z ns r = close_by (pointed (point_scale t.weights) ns t.qf r).fate t z ns (pointed (point_scale t.weights) ns t.qf r)

-- without a pointing weight each node has its keep-out row alone, at 6 + k
unfoldable pub without_pointing : Target → List Float → List Node → List Float → ResidualVector
without_pointing t z ns r = record { fate = going; count = 28; r = closing t z ns 23 r }

-- ---- the residuals of a run

abbrev pub error_by : Option (Float × Float × Float) → Target → List Float → List Node → ResidualVector
error_by None t z ns = refused_residuals 11 0
error_by (Some (a, b, c)) t z ns =
    cond (lt Floats.plus_zero t.weights.pointing)
    (with_pointing t z ns (ends (a ∷ b ∷ c ∷ []) (node_at ns 16).w))
    (without_pointing t z ns (ends (a ∷ b ∷ c ∷ []) (node_at ns 16).w))

unfoldable pub of_nodes : Target → List Float → List Node → ResidualVector
of_nodes t z ns = error_by (error_of (node_at ns 16).q t.qf) t z ns

abbrev pub of_run_by : Fate → Target → List Float → List Node → ResidualVector
of_run_by (Err why) t z ns = refused_residuals why.number why.place
of_run_by (Ok _) t z ns = of_nodes t z ns

unfoldable pub of_run : Target → List Float → Run → ResidualVector
of_run t z run = of_run_by run.fate t z run.nodes

-- what the residuals read of a problem
abbrev pub target_of : CheckedProblem → Target
target_of p = record { qf = p.qf; weights = p.weights; controls = control_dim p.map; wheels = p.map.wheel_count }

-- the residuals of a decision: one forward run, and its residuals
unfoldable pub residuals_of : CheckedProblem → List Float → ResidualVector
residuals_of p z = of_run (target_of p) z (run_of p z)
