-- `forward::runs::steps_on` meets its contract: a turn that makes a step writes its node, and the rollout with the rows so far is that of the steps so far. Assumes nothing.
use Rattle.std.proofs.Common.{rules}
use lib.Ieee as Ieee
use lib.Dec.{T}
use Rattle.float.specs.Sqrt as Sqrt
use Rattle.forward.specs.DefectLaws.{upright}
use Prim.Native.Nat.{ℕ, ◌≤◌, ◌<◌, ◌+◌, ◌-◌}
use mathlib.Core.Path.{◌≡◌, refl, sym, ap, ◌∙◌}
use mathlib.Core.List.{List}
use mathlib.Core.Logic.{⊎_elim}
use lib.ListN.{length, length-set}
use Rattle.common.specs.Iter.{iter}
use Rattle.geom.specs.Quats.{norm3}
use Rattle.forward.specs.Steps as Steps
use Rattle.forward.specs.StepPartInner.{Pipelined, attitude_by_length, pipelined_step, pipelined_first, pipelined_next}
use Rattle.forward.specs.Runs as Runs
use Rattle.forward.specs.RunLaws.{going_rollout, rollout_none, rollout_waits, rollout_next, one_turn, refused_turn}
use Rattle.forward.specs.Rows.{nodes_from, SameBelow}
use Rattle.forward.specs.RowLaws.{nodes_set, below_set}
use Rattle.forward.specs.PartLaws.{rollout_of, reached_refused, reached_going}
use Rattle.forward.specs.declared.Node.{Node}
use native.Mathlib.Omega.{arith}
use Rattle.forward.proofs.runs.steps_on.Goals as goal
use Rattle.forward.proofs.runs.steps_on.Lts.{then-k-i+in-Ok, else-k-i}

pub loop-i-init : goal.loop-i-init
loop-i-init c =
    let pre = c.requires in
    let sound = pre.1.1.1.0 in (
      (λ i h. refl, refl),
      (
        rollout_none _ _ _,
        (
          sound.plus,
          (
            record {
              first = λ e. rw c.dynamics_from-l.ensures (refl, sound.matrix);
              later = λ h. absurd (omega arith);
              past = λ h. absurd (omega (arith, pre.1.1.1.1.0));
            },
            λ h. absurd (omega arith),
          ),
        ),
      ),
    )

pub next_dynamics-next-requires : goal.next_dynamics-next-requires
next_dynamics-next-requires c =
    let pre = c.requires in
    (pre.0, ((pre.1.0, search rules), (pre.1.1.1.1.1, pre.1.1.0)))

pub returns-in-Err : goal.returns-in-Err
returns-in-Err c =
    let inv = c.loop-i.invariant in
    let v = inv.1 in
    let below : c.loop-i.i ≤ c.args.end = search rules in
    let f = attitude_by_length _ _ _ _ c.attitude.ensures c.exp_at-turned.ensures (v.1.1.1 c.if-k-i.true) in
    reached_refused _ _ _ _ _ _ _ _ _ c.if-k-i.true below v.0
    (refused_turn _ _ _ _ _ _ _ (pipelined_step _ _ _ _ _ _ v.1.1.0 c.if-k-i.true below f c.join-g.ensures) c.in-Err.is) c.in-Err.is inv.0.0 inv.0.1

pub node_row-row-requires : goal.node_row-row-requires
node_row-row-requires c = let below : c.loop-i.i ≤ c.args.end = search rules in omega (arith, below, c.requires.1.1.1.1.1)

pub offset_bounds-nodes-j : goal.offset_bounds-nodes-j
offset_bounds-nodes-j c = let below : c.loop-i.i ≤ c.args.end = search rules in omega (arith, below, c.requires.1.1.1.1.1)

pub bounds-nodes-j : goal.bounds-nodes-j
bounds-nodes-j c = let below : c.loop-i.i ≤ c.args.end = search rules in omega (arith, below, c.requires.1.1.1.1.1)

pub larger_square-square-requires : goal.larger_square-square-requires
larger_square-square-requires c =
    let loop = c.loop-i in
    loop.invariant.1.1.0

pub loop-i-preserved : goal.loop-i-preserved
loop-i-preserved c =
    let next-dynamics = c.next_dynamics-next in
    let lp = c.loop-i in
    let o = lp.invariant in
    let h : lp.i ≤ c.args.end = search rules in
    let from : c.args.k ≤ lp.i = search rules in
    let v = o.1 in
    let g = v.1.1.0 in
    let a = next-dynamics.ensures in
    let e = c.exp_at-turned.ensures in
    elim c.if-k-i.branch [
      | then-k-i+in-Ok w ↦ rw (w.nodes-is, w.s-is, w.square-is, nodes_set) (
        (below_set c.args.k c.args.nodes.now lp.nodes (lp.i - 1) w.node_row-row.result (omega (arith, w.if-k-i.true)) o.0.0, length-set lp.nodes (lp.i - 1) w.node_row-row.result ∙ o.0.1),
        (
          rollout_next (Runs.rollout_turn _ _ _) _ _ _ w.if-k-i.true v.0
              (one_turn _ _ _ _ _ _ _ (pipelined_step _ _ _ _ _ _ g w.if-k-i.true h (attitude_by_length _ _ _ _ w.attitude.ensures e (v.1.1.1 w.if-k-i.true)) w.join-g.ensures) w.node_row-row.ensures w.larger_square-square.ensures.1 w.in-Ok.is),
          (w.larger_square-square.ensures.0, (pipelined_next _ _ _ _ _ _ g a w.if-k-i.true h (attitude_by_length _ _ _ _ w.attitude.ensures e (v.1.1.1 w.if-k-i.true)) w.join-g.ensures w.in-Ok.is, λ y. c.norm3-length.ensures)),
        ),
      )
      | else-k-i w ↦ rw (w.nodes-is, w.s-is, w.square-is) (o.0, (rollout_waits _ _ _ _ (omega (arith, from)) v.0, (v.1.0, (pipelined_first _ _ _ _ _ _ g a (omega (arith, from)), λ y. c.norm3-length.ensures))))
    ]

pub returns : goal.returns
returns c =
    let v = c.loop-i.invariant in
    let a = c.args in
    let past : c.loop-i.i ≡ a.end + 1 = search rules in
    let e : c.loop-i.i - a.k - 1 ≡ a.end - a.k = omega (arith, past) in
    reached_going _ _ _ _ _ _ _ refl (rw e at v.1.0) (record { matrix = v.1.1.1.0.past (omega (arith, past)); plus = v.1.1.0 }) v.0.0 v.0.1
