-- Any row but k is the part of a that `take_row` changes, and the rest stays.
use Rattle.std.proofs.Common.{◌≡◌, refl, ap, sym, ◌∙◌, ℕ, ◌+◌, ◌*◌, ◌-◌, List, length, take, drop, arith}
use Rattle.std.proofs.Math.Bool.{cond}
use Rattle.std.specs.Float.Ieee.{Float}
use borrow.Author.Tests.{ne_eqb}
use Rattle.common.specs.Lists.{at}
use Rattle.normal_equations.specs.Rows.{row}
use Rattle.normal_equations.specs.RowsLaws.{length_row, at_row, row_same, row_other, part_row}
use Rattle.elimination.specs.Elimination as Elimination
use Rattle.elimination.proofs.rows.elim_row.Goals as goal

pub returns : goal.returns
unfolding Elimination.less
returns c =
    let a = c.args in
    let n : ℕ = length a.top.now in
    let v : List Float = a.a.now in
    let s : ℕ = a.i * n in
    let t = c.take_row in
    let r : List Float = row n v a.i in
    let pr : take (s + n - s) (drop s v) ≡ r = part_row n v a.i s (s + n) refl refl in
    let lr : length r ≡ n = length_row n v a.i (omega arith) in
    let whole : length t.new.row ≡ n = t.auto.row ∙ ap length pr ∙ lr in
    let e : t.new.row ≡ Elimination.eliminated_row n a.k a.top.now a.i r =
    t.ensures ∙ ap (λ p. Elimination.less (length p) a.k (at v (s + a.k)) a.top.now p) pr
    ∙ ap (λ k. Elimination.less k a.k (at v (s + a.k)) a.top.now r) lr
    ∙ ap (λ f. Elimination.less n a.k f a.top.now r) (sym (at_row n v a.i a.k (omega arith)))
    ∙ ap (λ b. cond b r (Elimination.less n a.k (at r a.k) a.top.now r)) (sym (ne_eqb a.i a.k c.if-i-k.false)) in
    record { own = row_same n v t.new.row a.i (omega arith) whole ∙ e; others = row_other n v t.new.row a.i (omega arith) whole }
