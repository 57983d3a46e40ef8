-- `profile::sample_seed` meets its contract: a turn of the loop adds one node to both lists. Assumes nothing.
use Rattle.std.proofs.Common.{rules, ◌≡◌, arith}
use Rattle.common.specs.IterLaws.{iter_none}
use Rattle.profile.specs.Profiles.{omega_vec, torque_vec}
use Rattle.profile.specs.Seeds.{node_time, rates_to, torques_to}
use Rattle.profile.proofs.Nodes.{next_node, all_nodes}
use Rattle.profile.proofs.sample_seed.Goals as goal

pub loop-i-init : goal.loop-i-init
unfolding rates_to torques_to
loop-i-init c = ((search rules, search rules), (iter_none _ _, iter_none _ _))

pub loop-i-preserved : goal.loop-i-preserved
unfolding rates_to torques_to
loop-i-preserved c =
    let l = c.loop-i in
    let p = c.args.p in (
      (search rules, search rules),
      (
        next_node (λ k. omega_vec p (node_time p.duration k)) _ _ _ l.invariant.1.0 (rw (c.with_node-next_rates.ensures, c.omega_vec.ensures, c.node_time-t.ensures)),
        next_node (λ k. torque_vec p (node_time p.duration k)) _ _ _ l.invariant.1.1 (rw (c.with_node-next_torques.ensures, c.torque_vec.ensures, c.node_time-t.ensures)),
      ),
    )

pub returns : goal.returns
returns c =
    let l = c.loop-i in
    let e : l.i ≡ 17 = omega arith in
    let r = rw e at (all_nodes _ _ l.i (omega arith) l.invariant.1.0) in
    let t = rw e at (all_nodes _ _ l.i (omega arith) l.invariant.1.1) in
    rw (r, t)
