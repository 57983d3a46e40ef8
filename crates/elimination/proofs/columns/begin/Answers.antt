-- By `pivot_small` the pivot's test decides, and by `right_done` the right side is eliminated.
use Rattle.std.proofs.Common.{ap, sym, subst, ◌∙◌, ℕ, false, List, length}
use Rattle.std.specs.Float.Ieee.{Float}
use Rattle.normal_equations.specs.Normal as Normal
use Rattle.normal_equations.specs.Rows.{rows}
use Rattle.elimination.specs.Inner as Inner
use Rattle.elimination.specs.Elimination as Elimination
use Rattle.elimination.specs.EliminationLaws.{pivot_small, going_both}
use Rattle.elimination.specs.TwoColumns.{pivot_found, right_done}
use Rattle.elimination.proofs.columns.begin.Goals as goal

pub returns : goal.returns
unfolding Elimination.reduce
returns c =
    let a = c.args in
    let n : ℕ = length a.b.now in
    let k : ℕ = a.k in
    let m : List (List Float) = rows n n a.a.now in
    let f = c.column_at in
    let g = c.pivot-best in
    let p = pivot_found n (length a.col.now) _ k (λ w. rows w w a.a.now) f.new.col _ _ c.requires.1 f.auto.col f.ensures g.ensures in
    let q = c.place.ensures in
    let swapped : List (List Float) = Elimination.swap_rows n k g.result.at m in
    let right : List Float = Elimination.divide_right n k (Normal.cell swapped k k) (Elimination.swap_right n k g.result.at a.b.now) in
    let h = subst (λ w. Inner.Column w k (rows w w a.a.now) f.new.col) c.requires.1 f.ensures in
    record {
      stage = pivot_small n k m a.b.now _ _ p false c.if-best.false
          ∙ going_both (ap (Elimination.eliminate n k) (sym q.matrix.placed))
          (sym (q.right ∙ right_done n k g.result.at m f.new.col right c.requires.2 p.inside (f.auto.col ∙ c.requires.1) h));
      first = λ e. q.matrix.first;
    }
