-- `dot8` gives the eight sums, and `four_cells` says that the stores put four in each row.
use Rattle.std.proofs.Common.{refl, ℕ, length, arith}
use Rattle.normal_equations.specs.NormalLaws.{four_cells}
use Rattle.normal_equations.proofs.sums.eight_at.Goals as goal

pub returns : goal.returns
returns c =
    let a = c.args in
    let m : ℕ = length a.o.now in
    let r = c.dot8-s.ensures in
    (four_cells a.o.now a.j.now a.row.now m a.d _ _ _ _ refl (omega arith) r.0, four_cells a.p.now a.j.now a.next.now m a.d _ _ _ _ c.requires.2 (omega arith) r.1)
