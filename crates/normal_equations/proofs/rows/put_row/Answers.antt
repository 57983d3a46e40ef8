-- The lent part is row c, which becomes the line; every other row lies outside it.
use Rattle.std.proofs.Common.{◌≡◌, ap, ◌∙◌, ℕ, length, arith}
use Rattle.normal_equations.specs.RowsLaws.{row_same, row_other}
use Rattle.normal_equations.proofs.rows.put_row.Goals as goal

pub returns : goal.returns
returns c =
    let a = c.args in
    let t = c.copy in
    let n : ℕ = length a.line.now in
    let whole : length t.new.to ≡ n = ap length t.ensures in
    record { own = row_same n a.a.now t.new.to a.c (omega arith) whole ∙ t.ensures; others = row_other n a.a.now t.new.to a.c (omega arith) whole }
