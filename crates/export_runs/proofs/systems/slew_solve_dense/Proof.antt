-- `export_runs::systems::slew_solve_dense` meets its contract: the tests are the definition's. Assumes nothing.
use borrow.Author.Rules.{rules}
use borrow.Author.Tests.{lt-ltb, le-ltb, eq-eqb, ne_eqb}
use native.Mathlib.Nat.{mul-le-mul}
use native.Mathlib.Omega.{arith}
use Rattle.export_runs.proofs.systems.slew_solve_dense.Statement.{statement}
use Rattle.export_runs.proofs.systems.slew_solve_dense.Tie as tie

returns : tie.Need-returns-then-n-gt193
returns c = rw (lt-ltb 193 _ c.if-n-gt193.true)

mul-if2 : tie.Need-overflow_mul-n
mul-if2 c = omega (arith, mul-le-mul c.if-n-gt193.false c.if-n-gt193.false)

returns_2 : tie.Need-returns-then-a-n
returns_2 c = rw (le-ltb 193 _ c.if-n-gt193.false, ne_eqb _ _ c.if-a-n.true)

returns_3 : tie.Need-returns
returns_3 c =
    rw (le-ltb 193 _ c.if-n-gt193.false, eq-eqb _ _ c.if-a-n.false) c.solve_dense.ensures

pub slew_solve_dense_spec : {M : Type 1} → statement M
slew_solve_dense_spec =
    tie.close
    (tie.spec
    returns mul-if2 returns_2 (λ c κs. search rules) (λ c. search rules) (λ c. search rules) returns_3)
