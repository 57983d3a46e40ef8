-- Row k goes to p and the divided row p to k: `rows_placed` says that this is the definition's.
use Rattle.std.proofs.Common.{◌≡◌, refl, ap, sym, ◌∙◌, ℕ, List, length, arith}
use Rattle.std.proofs.Math.Bool.{cond}
use Rattle.std.proofs.Math.Dec.{eqb}
use Rattle.std.specs.Float.Ieee.{Float}
use borrow.Author.Tests.{eq-eqb}
use Rattle.common.specs.Lists.{at}
use Rattle.normal_equations.specs.Normal as Normal
use Rattle.normal_equations.specs.FilledInner.{OneRow, one_row}
use Rattle.normal_equations.specs.Rows.{row, rows}
use Rattle.normal_equations.specs.RowsLaws.{line_rows, part_row}
use Rattle.elimination.specs.Elimination as Elimination
use Rattle.elimination.specs.EliminationLaws.{swap_cell, rows_placed}
use Rattle.elimination.proofs.rows.place_rows.Goals as goal

pub returns : goal.returns
returns c =
    let a = c.args in
    let n : ℕ = length a.top.now in
    let v : List Float = a.a.now in
    let r1 = c.put_row in
    let r2 = c.put_row-2 in
    let x = c.copy in
    let y = c.copy-2 in
    let z = c.divide in
    let ex : x.new.to ≡ row n v a.k = x.ensures ∙ part_row n v a.k _ _ refl refl in
    let ey : y.new.to ≡ row n v a.p = y.ensures ∙ part_row n v a.p _ _ refl refl in
    let ly : length y.new.to ≡ n = y.auto.to in
    let ez : z.new.row ≡ Elimination.divided n a.k (row n v a.p) =
    z.ensures ∙ ap (λ w. Elimination.divided w a.k y.new.to) ly ∙ ap (λ r. Elimination.divided n a.k r) ey in
    let lx : length x.new.to ≡ n = omega (arith, x.auto.to, c.requires.2) in
    let lz : length z.new.row ≡ n = z.auto.row ∙ ly in
    let f1 : OneRow a.p (row n v a.k) (row n v) (row n r1.new.a) = one_row n (length x.new.to) x.new.to (row n v a.k) v r1.new.a a.p lx ex r1.ensures in
    let f2 : OneRow a.k (Elimination.divided n a.k (row n v a.p)) (row n r1.new.a) (row n r2.new.a) =
    one_row n (length z.new.row) z.new.row (Elimination.divided n a.k (row n v a.p)) r1.new.a r2.new.a a.k lz ez r2.ensures in
    let m : List (List Float) = rows n n v in
    record {
      size = r2.auto.a ∙ r1.auto.a;
      by = ap (λ r. at r a.k) (ey ∙ sym (line_rows n n v a.p c.requires.1))
          ∙ ap (λ b. Normal.cell m (cond b a.p (cond (eqb a.k a.p) a.k a.k)) a.k) (sym (eq-eqb a.k a.k refl))
          ∙ sym (swap_cell n a.k a.p m a.k a.k c.requires.0);
      placed = rows_placed n v r1.new.a r2.new.a a.k a.p c.requires.0 c.requires.1 f1 f2;
      first = ez ∙ sym f2.own;
    }
