-- `two_done` says that both eliminations in one pass leave the rows of one after the other.
use Rattle.std.proofs.Common.{◌≡◌, ap, sym, subst, ◌∙◌, ℕ, ◌+◌, ◌*◌, ◌≤◌, false, List, length, arith}
use Rattle.std.specs.Float.Ieee.{Float}
use Rattle.common.specs.IterLaws.{row_end}
use Rattle.normal_equations.specs.Normal as Normal
use Rattle.normal_equations.specs.FilledInner.{OneRow, one_row}
use Rattle.normal_equations.specs.Rows.{row, rows}
use Rattle.elimination.specs.Inner as Inner
use Rattle.elimination.specs.Elimination as Elimination
use Rattle.elimination.specs.EliminationLaws.{pivot_small, going_both, swapped_pivot}
use Rattle.elimination.specs.TwoColumns.{pivot_found, right_done, pivot_line, two_done}
use Rattle.elimination.proofs.columns.finish.Goals as goal
use Rattle.elimination.proofs.columns.finish.Goals.{After-pivot-next_best}

-- the pivot of column k + 1 as it will be
found : (c : After-pivot-next_best) → Inner.Pivot (length c.args.b.now) (c.args.k + 1) (Elimination.eliminate (length c.args.b.now) c.args.k (rows (length c.args.b.now) (length c.args.b.now) c.args.a.now)) c.pivot-next_best.result.at c.pivot-next_best.result.size
found c =
    let a = c.args in
    let f = c.column_after in
    pivot_found (length a.b.now) (length a.col.now) _ (a.k + 1) (λ w. Elimination.eliminate w a.k (rows w w a.a.now)) f.new.col _ _ c.requires.1 f.auto.col f.ensures c.pivot-next_best.ensures

pub elim_row-requires : goal.elim_row-requires
elim_row-requires c =
    let a = c.args in
    let n : ℕ = length a.b.now in
    let g = c.pivot-next_best in
    let p = found (goal.at.elim_row-requires c).After-pivot-next_best in
    (omega arith, subst (λ w. g.result.at * w + w ≤ length a.a.now) (sym c.requires.3) (omega (arith, c.requires.0.matrix, row_end g.result.at n n p.inside)))

pub place-requires : goal.place-requires
place-requires c =
    let f = c.column_after in
    let p = found (goal.at.place-requires c).After-pivot-next_best in
    (record { matrix = c.elim_row.auto.a ∙ c.requires.0.matrix; tops = c.requires.0.tops; spares = c.requires.0.spares }, f.auto.col ∙ c.requires.1, omega arith, p.inside)

pub returns : goal.returns
unfolding Elimination.reduce
returns c =
    let a = c.args in
    let n : ℕ = length a.b.now in
    let k : ℕ = a.k in
    let v : List Float = a.a.now in
    let top : List Float = a.top.now in
    let m : List (List Float) = Elimination.eliminate n k (rows n n v) in
    let f = c.column_after in
    let g = c.pivot-next_best in
    let r = c.elim_row in
    let q = c.place in
    let t = c.eliminate_two in
    let at_p : ℕ = g.result.at in
    let w : List Float = r.new.a in
    let u : List Float = q.new.a in
    let next : List Float = q.new.top in
    let p = found (goal.at.returns c).After-pivot-next_best in
    let h = subst (λ x. Inner.Column x (k + 1) (Elimination.eliminate x k (rows x x v)) f.new.col) c.requires.1 f.ensures in
    let one : OneRow at_p (Elimination.eliminated_row n k top at_p (row n v at_p)) (row n v) (row n w) =
    one_row n (length top) _ _ v w at_p c.requires.3 (ap (λ x. Elimination.eliminated_row x k top at_p (row x v at_p)) c.requires.3) r.ensures in
    let pl = q.ensures.matrix in
    let line : Normal.line (rows n n w) at_p ≡ Normal.line m at_p = pivot_line n k at_p v w u top next c.requires.2 p.inside p.least c.requires.4 one pl.placed pl.first in
    let same : Normal.cell (Elimination.swap_rows n (k + 1) at_p (rows n n w)) (k + 1) (k + 1) ≡ Normal.cell (Elimination.swap_rows n (k + 1) at_p m) (k + 1) (k + 1) = swapped_pivot n (k + 1) at_p (rows n n w) m c.requires.2 line in
    let ea : rows n n t.new.a ≡ Elimination.eliminate n (k + 1) (Elimination.divide_row n (k + 1) (Elimination.swap_rows n (k + 1) at_p m)) =
    subst (λ x. rows x x t.new.a ≡ Inner.eliminate_two x k top next u) c.requires.3 t.ensures
    ∙ two_done n k at_p v w u top next c.requires.2 p.inside p.least c.requires.4 one pl.placed pl.first in
    let right : Float → List Float = λ d. Elimination.divide_right n (k + 1) d (Elimination.swap_right n (k + 1) at_p a.b.now) in
    let eb = q.ensures.right ∙ right_done n (k + 1) at_p m f.new.col (right (Normal.cell (Elimination.swap_rows n (k + 1) at_p (rows n n w)) (k + 1) (k + 1))) c.requires.2 p.inside (f.auto.col ∙ c.requires.1) h
    ∙ ap (λ d. Elimination.eliminate_right n (k + 1) (Elimination.divide_row n (k + 1) (Elimination.swap_rows n (k + 1) at_p m)) (right d)) same in
    pivot_small n (k + 1) m a.b.now _ _ p false c.if-next_best.false ∙ going_both (sym ea) (sym eb)
