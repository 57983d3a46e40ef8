use borrow.Author.Rules.{rules}
use Rattle.std.specs.Prelude.{Option, Float}
use Rattle.std.proofs.Common.{◌+◌, ◌<◌, ◌≡◌, ◌∙◌, ap, arith}
use Rattle.std.proofs.lemmas.Result.{err_from_is_err_and}
use Rattle.common.specs.IterLaws.{iter_none}
use Rattle.forward.specs.Rows.{nodes_from}
use Rattle.residuals.specs.Residuals as Residuals
use Rattle.residuals.specs.PointLaws.{rows_next, rows_refused}
use Rattle.residuals.proofs.terms.pointed.Goals as goal

pub loop-j-init : goal.loop-j-init
loop-j-init c = iter_none _ _

pub error_at-requires : goal.error_at-requires
error_at-requires c = (search rules, c.requires)

pub returns-in_err-point : goal.returns-in_err-point
returns-in_err-point c =
    let l = c.loop-j in
    let a = c.args in
    let small : l.j < 16 = search rules in
    let p = err_from_is_err_and c.from_residual.result c.from_residual.ensures.1 in
    let next = rows_next a.scale (nodes_from a.nodes.now) a.qf a.r.now l.j l.r l.invariant (c.in_err-point.ensures ∙ ap (λ (e : Option (Float × Float × Float)). Residuals.point_by e a.scale l.j l.r) c.error_at.ensures) in
    rw (p.1, p.2) (rows_refused a.scale (nodes_from a.nodes.now) a.qf a.r.now (l.j + 1) 16 _ _ (omega (arith, small)) next)

pub loop-j-preserved : goal.loop-j-preserved
loop-j-preserved c =
    let l = c.loop-j in
    let a = c.args in
    rows_next a.scale (nodes_from a.nodes.now) a.qf a.r.now l.j l.r l.invariant (c.in_ok-point.ensures ∙ ap (λ (e : Option (Float × Float × Float)). Residuals.point_by e a.scale l.j l.r) c.error_at.ensures)

pub returns : goal.returns
returns c = let all : c.loop-j.j ≡ 16 = search rules in rw all at c.loop-j.invariant
