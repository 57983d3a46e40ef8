use Rattle.std.proofs.Common.{ℕ, sym, ◌∙◌, length, arith}
use Rattle.normal_equations.specs.RowsLaws.{cell_rows}
use Rattle.elimination.proofs.pivots.column_at.Goals as goal

pub returns : goal.returns
returns c i h =
    let a = c.args in
    let n : ℕ = length a.col.now in
    c.loop-i.invariant.done i (omega arith) (omega arith) ∙ sym (cell_rows n n a.a.now i a.k h (omega arith))
