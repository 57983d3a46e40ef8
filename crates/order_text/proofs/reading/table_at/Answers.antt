use Rattle.std.proofs.Common.{◌≡◌, ◌+◌, sym, ◌∙◌, arith, Ok}
use Rattle.std.proofs.Math.ListN.{replicate}
use Rattle.std.proofs.lemmas.Result.{err_from_is_err_and}
use Rattle.common.specs.IterLaws.{iter_none, iter_next, iter_stays}
use Rattle.order_text.specs.TileTexts.{table_turn, table_at}
use Rattle.order_text.specs.TileTextLaws.{table_shut}
use Rattle.order_text.proofs.reading.table_at.Goals as goal

pub loop-i-init : goal.loop-i-init
loop-i-init c = iter_none _ _

pub loop-i-preserved : goal.loop-i-preserved
loop-i-preserved c = iter_next _ _ c.loop-i.i c.loop-i.invariant (sym c.in_ok-c.was ∙ c.next_line.ensures)

pub returns-in_err-c : goal.returns-in_err-c
unfolding table_at
returns-in_err-c c =
    let a = c.args in
    let i = c.loop-i.i in
    let e = iter_next (table_turn a.s.now a.n) (Ok (record { at = a.at; times = replicate 100 0 })) i c.loop-i.invariant (sym c.in_err-c.was ∙ c.next_line.ensures) in
    let p = err_from_is_err_and c.from_residual.result c.from_residual.ensures.1 in
    rw (p.1, p.2) (iter_stays _ _ (i + 1) a.n (omega arith) e (λ j. sym (table_shut a.s.now a.n j _)))

pub returns : goal.returns
unfolding table_at
returns c =
    let e : c.loop-i.i ≡ c.args.n = omega arith in
    rw e at c.loop-i.invariant
