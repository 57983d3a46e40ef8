-- The Gram matrix that is copied is that of the columns, and `complete_equations` does the rest.
use Rattle.std.proofs.Common.{ap, ◌∙◌, ℕ, ◌*◌, ◌-◌, ◌≤◌, List, ◌++◌, length, take, drop, arith, length-drop, length-take-le, take_at}
use Rattle.std.specs.Float.Ieee.{Float}
use Rattle.common.specs.Lists.{pasted}
use Rattle.normal_equations.proofs.NormalLaws.{gram_equations}
use Rattle.normal_equations.specs.Rows.{rows}
use Rattle.normal_equations.specs.RowsLaws.{tail_part, tail_back}
use Rattle.normal_equations.proofs.kept_equations.Goals as goal

pub returns : goal.returns
returns c =
    let a = c.args in
    let n : ℕ = length a.g.now in
    let v : List Float = a.v.now in
    let o : ℕ = n * a.m in
    let t = c.copy in
    let s = c.complete_equations in
    let p : List Float = t.new.to in
    let h : o ≤ length v = omega arith in
    gram_equations n a.m v (pasted v o (length v) p) a.r.now a.lambda s.new.v s.new.g
    (take_at (take o v) (p ++ drop (length v - o) (drop o v)) o (length-take-le o v h))
    (ap (λ x. rows n n x) (tail_back v p o h (t.auto.to ∙ ap length (tail_part v o) ∙ length-drop o v) ∙ t.ensures) ∙ c.requires.4) s.ensures
