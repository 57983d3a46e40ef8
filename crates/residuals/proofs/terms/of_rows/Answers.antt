-- `residuals::terms::of_rows` meets its contract: the logarithm at the end decides, and the pointing weight between the two widths, as in the definition.
use mathlib.Core.Path.{◌≡◌, refl, sym, ap, ◌∙◌}
use native.Mathlib.Omega.{arith}
use lib.Ieee as Ieee
use Rattle.forward.specs.Rows.{node_from}
use Rattle.forward.specs.RowLaws.{nodes_at}
use Rattle.residuals.specs.Residuals as Residuals
use Rattle.residuals.specs.BeginLaws.{error_row}
use Rattle.residuals.proofs.terms.of_rows.Goals as goal

pub with_pointing-requires : goal.with_pointing-requires
unfolding Ieee.of_bits
with_pointing-requires c =
    let error = c.in-Some in
    let a = c.args in
    let pre = c.requires in
    let e = c.error_in-error.ensures ∙ error_row a.nodes.now a.t.qf 16 (omega (arith, pre.1.sums.long)) in
    (pre.0, (pre.1.sums, record { kept = pre.1.kept c.if-weights.true; end = sym error.is ∙ e }))

pub returns-then-weights : goal.returns-then-weights
unfolding Residuals.of_nodes Ieee.of_bits node_from
returns-then-weights c =
    let error = c.in-Some in
    let rate-in = c.rate_in in
    let ends = c.ends-r in
    let a = c.args in
    let long = c.requires.1.sums.long in
    let e = c.error_in-error.ensures ∙ error_row a.nodes.now a.t.qf 16 (omega (arith, long)) in
    rw (← e, error.is, c.if-weights.true, c.with_pointing.ensures, ends.ensures, rate-in.ensures, nodes_at a.nodes.now 16 (omega (arith, long)))

pub returns-in-None : goal.returns-in-None
unfolding Residuals.of_nodes
returns-in-None c =
    let a = c.args in
    let e = c.error_in-error.ensures ∙ error_row a.nodes.now a.t.qf 16 (omega (arith, c.requires.1.sums.long)) in
    rw (← e, c.in-None.is) c.refused_residuals.ensures

pub returns-else-weights : goal.returns-else-weights
unfolding Residuals.of_nodes Ieee.of_bits node_from
returns-else-weights c =
    let error = c.in-Some in
    let rate-in = c.rate_in in
    let ends = c.ends-r in
    let a = c.args in
    let long = c.requires.1.sums.long in
    let e = c.error_in-error.ensures ∙ error_row a.nodes.now a.t.qf 16 (omega (arith, long)) in
    rw (← e, error.is, c.if-weights.false, c.without_pointing.ensures, ends.ensures, rate-in.ensures, nodes_at a.nodes.now 16 (omega (arith, long)))
