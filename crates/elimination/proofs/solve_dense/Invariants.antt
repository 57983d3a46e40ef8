use Rattle.std.proofs.Common.{◌≡◌, ◌*◌}
use Rattle.common.specs.Iter.{iter}
use Rattle.normal_equations.specs.Rows.{rows}
use Rattle.elimination.specs.Elimination as Elimination
use Rattle.elimination.proofs.solve_dense.Given as goal

-- 2 * p columns are done
abbrev pub invariant-loop-p : goal.invariant-loop-p
invariant-loop-p l = Elimination.going (rows l.n l.n l.a) l.b ≡ iter (Elimination.column l.n) (Elimination.going (rows l.n l.n l.initial.a) l.initial.b) (2 * l.p)
