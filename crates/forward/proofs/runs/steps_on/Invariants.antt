-- The loop of `runs::steps_on`: the rollout with the rows so far is that of the steps so far, and the dynamics below i are made.
use lib.Ieee as Ieee
use lib.Dec.{T}
use Rattle.float.specs.Sqrt as Sqrt
use Rattle.forward.specs.DefectLaws.{upright}
use Prim.Native.Nat.{ℕ, ◌≤◌, ◌<◌, ◌+◌, ◌-◌}
use mathlib.Core.Path.{◌≡◌}
use lib.ListN.{length}
use Rattle.common.specs.Iter.{iter}
use Rattle.geom.specs.Quats.{norm3}
use Rattle.forward.specs.StepPartInner.{Pipelined}
use Rattle.forward.specs.Runs as Runs
use Rattle.forward.specs.RunLaws.{going_rollout}
use Rattle.forward.specs.Rows.{nodes_from, SameBelow}
use Rattle.forward.specs.PartLaws.{rollout_of}
use Rattle.forward.proofs.runs.steps_on.Given as goal

abbrev pub invariant-loop-i : goal.invariant-loop-i
invariant-loop-i l =
    ((SameBelow l.k l.fn.nodes l.nodes × (length l.nodes ≡ length l.fn.nodes)) × ((going_rollout l.s (Sqrt.sqrt Ieee.binary64 l.square) (nodes_from l.nodes) ≡ iter (λ (d : ℕ). Runs.rollout_turn l.b l.n l.z (d + l.k)) (rollout_of l.c l.fn.nodes) (l.i - l.k - 1)) × (T (upright l.square) × (Pipelined l.b l.n l.z l.k l.end l.i l.s l.l × (l.k < l.i → l.length ≡ norm3 l.l.turn)))))
