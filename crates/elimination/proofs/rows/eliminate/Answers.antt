use Rattle.std.proofs.Common.{ap, sym, ◌∙◌, ℕ, List, [], length, get_or, arith}
use Rattle.std.specs.Float.Ieee.{Float}
use Rattle.normal_equations.specs.TabLaws.{tab_same}
use Rattle.normal_equations.specs.Rows.{row, rows}
use Rattle.normal_equations.specs.RowsLaws.{line_rows}
use Rattle.elimination.specs.Elimination as Elimination
use Rattle.elimination.proofs.rows.eliminate.Goals as goal

pub returns : goal.returns
unfolding Elimination.eliminate
returns c =
    let l = c.loop-i in
    let a = c.args in
    let n : ℕ = length a.top.now in
    let v : List Float = a.a.now in
    tab_same n _ _ (λ x h. l.invariant.done x (omega arith) (omega arith)
    ∙ ap (λ t. Elimination.eliminated_row n a.k t x (row n v x)) (c.requires.2 ∙ sym (line_rows n n v a.k (omega arith)))
    ∙ ap (λ r. Elimination.eliminated_row n a.k (get_or (rows n n v) a.k []) x r) (sym (line_rows n n v x h)))
