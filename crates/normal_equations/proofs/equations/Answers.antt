-- `gram_matrix` makes the columns' Gram matrix behind them, and `complete_equations` does the rest.
use Rattle.std.proofs.Common.{length}
use Rattle.normal_equations.proofs.NormalLaws.{gram_equations}
use Rattle.normal_equations.proofs.equations.Goals as goal

pub returns : goal.returns
returns c =
    let a = c.args in
    let t = c.complete_equations in
    let s = c.gram_matrix in
    gram_equations (length a.g.now) a.m a.v.now s.new.v a.r.now a.lambda t.new.v t.new.g s.ensures.0 s.ensures.1 t.ensures
