-- The end checks, 14 to 19, over the run of the decision that was found. Definitions only.
use Rattle.std.specs.Prelude.{ℕ, Bool, true, false, cond, List, [], ◌∷◌, Float, Option, Some, None, Ok, Err}
use Rattle.std.specs.Float.{binary64}
use Rattle.std.specs.Float.Ieee.{add, lt, of_bits}
use Rattle.common.specs.Iter.{iter}
use Rattle.geom.specs.Vec.{torque_excess}
use Rattle.geom.specs.Quats.{norm3}
use Rattle.actuators.specs.declared.ActuatorMap.{ActuatorMap}
use Rattle.control_limits.specs.Limits.{momentum_excess}
use Rattle.problem.specs.declared.CheckedProblem.{CheckedProblem}
use Rattle.forward.specs.Steps.{slack}
use Rattle.forward.specs.declared.Node.{Node}
use Rattle.forward.specs.declared.Run.{Run}
use Rattle.forward.specs.Runs.{node_at}
use Rattle.residuals.specs.Residuals.{error_of}
use Rattle.common.specs.Refusals.{Fate, refusal, going}

-- ATT_TOL and RATE_TOL, 0.0001: of the final attitude error and of the final rate
abbrev pub tolerance : Float
tolerance = of_bits binary64 0x3f1a_36e2_eb1c_432d

-- DEFECT_TOL, 0.005: of the largest defect
abbrev pub defect_tolerance : Float
defect_tolerance = of_bits binary64 0x3f74_7ae1_47ae_147b

-- ---- 17 to 19, at one node: each over by more than 1e-9

-- the body rate's length against the slew limit, where there is one
abbrev pub too_fast : Option Float → List Float → Bool
too_fast None w = false
too_fast (Some limit) w = lt (add binary64 limit slack) (norm3 w)

abbrev pub over_torque : CheckedProblem → Node → Bool
over_torque p n = lt slack (torque_excess n.tau p.torque_limit)

-- the wheels' momenta against their limits
abbrev pub too_much : ActuatorMap → List Float → Bool
too_much m hw = lt slack (momentum_excess m.wheel_momenta m.wheel_count hw)

abbrev pub over_momentum : CheckedProblem → Node → Bool
over_momentum p n = too_much p.map n.hw

-- node k
unfoldable pub node_fate : CheckedProblem → Node → ℕ → Fate
node_fate p n k = cond (over_torque p n) (Err (refusal 17 k)) (cond (too_fast p.slew n.w) (Err (refusal 18 k)) (cond (over_momentum p n) (Err (refusal 19 k)) going))

-- the first refusal stays
abbrev pub node_turn_by : Fate → CheckedProblem → List Node → ℕ → Fate
node_turn_by (Ok _) p ns k = node_fate p (node_at ns k) k
node_turn_by (Err why) p ns k = Err why

abbrev pub node_turn : CheckedProblem → List Node → ℕ → Fate → Fate
node_turn p ns k f = node_turn_by f p ns k

unfoldable pub nodes_fate : CheckedProblem → List Node → Fate
nodes_fate p ns = iter (node_turn p ns) going 17

-- ---- 14, 15, 16, then the nodes

-- the end rate and the defect, then the nodes
unfoldable pub rest_fate : CheckedProblem → Run → Fate
rest_fate p run =
    cond (lt tolerance (norm3 (node_at run.nodes 16).w)) (Err (refusal 15 0)) (cond (lt defect_tolerance run.defect) (Err (refusal 16 0)) (nodes_fate p run.nodes))

-- the end attitude error: the turn that is left from node 16 to qf; an 11 has place 0
abbrev pub error_fate : Option (Float × Float × Float) → CheckedProblem → Run → Fate
error_fate None p run = Err (refusal 11 0)
error_fate (Some (a, b, c)) p run = cond (lt tolerance (norm3 (a ∷ b ∷ c ∷ []))) (Err (refusal 14 0)) (rest_fate p run)

unfoldable pub end_fate : CheckedProblem → Run → Fate
end_fate p run = error_fate (error_of (node_at run.nodes 16).q p.qf) p run
