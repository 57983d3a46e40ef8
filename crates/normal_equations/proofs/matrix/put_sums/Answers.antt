-- By `row_mirrored` sums and mirrored part are the row that is stored.
use Rattle.std.proofs.Common.{◌≡◌, ap, sym, subst, ◌∙◌, ℕ, ◌+◌, ◌*◌, ◌-◌, List, ◌++◌, length, take, drop, arith, length-drop, length-take-le, take_at}
use Rattle.std.specs.Float.Ieee.{Float}
use Rattle.common.specs.Lists.{at, pasted}
use Rattle.normal_equations.specs.Inner as Inner
use Rattle.normal_equations.specs.NormalLaws.{row_mirrored}
use Rattle.normal_equations.specs.Rows.{row}
use Rattle.normal_equations.specs.RowsLaws.{length_pasted, tail_part, tail_back}
use Rattle.normal_equations.specs.FilledInner.{Filled, OneRow, one_row}
use Rattle.normal_equations.proofs.matrix.put_sums.Goals as goal

pub returns : goal.returns
returns c =
    let a = c.args in
    let n : ℕ = length a.row.now in
    let v : List Float = a.v.now in
    let o : ℕ = n * a.m in
    let t = c.mirror in
    let p = c.put_row in
    let q : List Float = t.new.row in
    let y : List Float = p.new.a in
    let u : List Float = pasted v o (length v) y in
    let ly : length y ≡ length v - o = p.auto.a ∙ ap length (tail_part v o) ∙ length-drop o v in
    let x : List Float = Inner.mirrored_row n a.m v a.c in
    let eq : q ≡ x =
    row_mirrored n a.m v a.c a.row.now q t.auto.row c.requires.2
    (subst (λ w. Filled (λ d. at w (d * n + a.c)) 0 a.c (at a.row.now) (at q)) (tail_part v o) t.ensures) in
    record {
      size = length_pasted v y o (length v) (omega arith) (omega arith) ly;
      columns = take_at (take o v) (y ++ drop (length v - o) (drop o v)) o (length-take-le o v (omega arith));
      matrix = subst (λ w. OneRow a.c x (row n w) (row n (drop o u))) (tail_part v o)
          (subst (λ w. OneRow a.c x (row n (take (length v - o) (drop o v))) (row n w)) (sym (tail_back v y o (omega arith) ly))
          (one_row n (length q) q x (take (length v - o) (drop o v)) y a.c t.auto.row eq p.ensures));
    }
