-- The first refusal is the definition's.
use Rattle.std.proofs.Common.{◌≡◌, ◌∙◌, ap, Err, arith}
use Rattle.std.proofs.lemmas.Result.{err_from_is_err_and}
use Rattle.common.specs.IterLaws.{iter_none}
use Rattle.end_checks.specs.Ends as Ends
use Rattle.end_checks.specs.EndLaws.{nodes_next, nodes_refused}
use Rattle.end_checks.proofs.nodes_fate.Goals as goal

pub loop-k-init : goal.loop-k-init
loop-k-init c = iter_none _ _

pub returns-in_err-node_fate : goal.returns-in_err-node_fate
returns-in_err-node_fate c =
    let p = err_from_is_err_and c.from_residual.result c.from_residual.ensures.1 in
    p.1 ∙ ap Err p.2 ∙ nodes_refused _ _ _ c.loop-k.invariant c.node_fate.ensures (omega arith) c.in_err-node_fate.was

pub loop-k-preserved : goal.loop-k-preserved
loop-k-preserved c = nodes_next _ _ _ c.loop-k.invariant c.node_fate.ensures c.in_ok-node_fate.was

pub returns : goal.returns
unfolding Ends.nodes_fate
returns c = let e : c.loop-k.k ≡ 17 = omega arith in rw e at c.loop-k.invariant
