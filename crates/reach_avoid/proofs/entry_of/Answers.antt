use Rattle.std.proofs.Common.{inl, inr, arith}
use Rattle.std.proofs.lemmas.Result.{err_from_is_err_and}
use Rattle.reach_avoid.specs.WholeLaws.{Counted, counted_word}
use Rattle.reach_avoid.specs.TableLaws.{start_of, start_out}
use Rattle.reach_avoid.proofs.entry_of.Goals as goal

pub returns-in_err-x : goal.returns-in_err-x
returns-in_err-x c =
    let x : Counted 64 c.args.angle c.counted.result = counted_word 64 (omega arith) c.ranges.angle c.counted.ensures in
    let p = err_from_is_err_and c.from_residual.result c.from_residual.ensures.1 in
    rw p.1 (start_out _ (inl (rw c.in_err-x.was at x)))

pub returns-in_err-y : goal.returns-in_err-y
returns-in_err-y c =
    let y : Counted 8 c.args.rate c.counted-2.result = counted_word 8 (omega arith) c.ranges.rate c.counted-2.ensures in
    let p = err_from_is_err_and c.from_residual-in_err-y.result c.from_residual-in_err-y.ensures.1 in
    rw p.1 (start_out _ (inr (rw c.in_err-y.was at y)))

pub returns : goal.returns
returns c =
    let x : Counted 64 c.args.angle c.counted.result = counted_word 64 (omega arith) c.ranges.angle c.counted.ensures in
    let y : Counted 8 c.args.rate c.counted-2.result = counted_word 8 (omega arith) c.ranges.rate c.counted-2.ensures in
    start_of _ (rw c.in_ok-x.was at x) (rw c.in_ok-y.was at y)
