-- Any row but k and k + 1 has the two eliminations of `take_two`.
use Rattle.std.proofs.Common.{◌≡◌, refl, ap, ◌∙◌, ℕ, ◌+◌, ◌*◌, ◌-◌, List, length, take, drop, arith}
use Rattle.std.specs.Float.Ieee.{Float}
use Rattle.normal_equations.specs.Rows.{row}
use Rattle.normal_equations.specs.RowsLaws.{length_row, row_same, row_other, part_row}
use Rattle.elimination.specs.Inner as Inner
use Rattle.elimination.specs.TwoColumns.{two_rest}
use Rattle.elimination.proofs.rows.two_row.Goals as goal

pub returns : goal.returns
returns c =
    let a = c.args in
    let n : ℕ = length a.t.now in
    let v : List Float = a.a.now in
    let s : ℕ = a.i * n in
    let t = c.take_two in
    let r : List Float = row n v a.i in
    let pr : take (s + n - s) (drop s v) ≡ r = part_row n v a.i s (s + n) refl refl in
    let lr : length r ≡ n = length_row n v a.i (omega arith) in
    let whole : length t.new.row ≡ n = t.auto.row ∙ ap length pr ∙ lr in
    let e : t.new.row ≡ Inner.two_row n a.k a.t.now a.u.now a.i r =
    t.ensures ∙ ap (λ p. Inner.less_two (length p) a.k a.t.now a.u.now p) pr
    ∙ ap (λ k. Inner.less_two k a.k a.t.now a.u.now r) lr
    ∙ two_rest n a.k a.t.now a.u.now a.i r c.if-i-k.false c.if-i-k-2.false in
    record { own = row_same n v t.new.row a.i (omega arith) whole ∙ e; others = row_other n v t.new.row a.i (omega arith) whole }
