-- `export_runs::systems::slew_damped_step` meets its contract: the tests are the definition's. Assumes nothing.
use borrow.Author.Rules.{rules}
use borrow.Author.Tests.{lt-ltb, le-ltb, eq-eqb, ne_eqb}
use native.Mathlib.Nat.{mul-le-mul}
use native.Mathlib.Omega.{arith}
use Rattle.export_runs.proofs.systems.slew_damped_step.Statement.{statement}
use Rattle.export_runs.proofs.systems.slew_damped_step.Tie as tie

returns : tie.Need-returns-then-n-gt193
returns c = rw (lt-ltb 193 _ c.if-n-gt193.true)

returns_2 : tie.Need-returns-then-m-gt193
returns_2 c = rw (le-ltb 193 _ c.if-n-gt193.false, lt-ltb 193 _ c.if-m-gt193.true)

returns_3 : tie.Need-returns-then-r-m
returns_3 c = rw (le-ltb 193 _ c.if-n-gt193.false, le-ltb 193 _ c.if-m-gt193.false, lt-ltb _ _ c.if-r-m.true)

-- at most 193 rows of at most 193
mul-if4 : tie.Need-overflow_mul-n
mul-if4 c = omega (arith, mul-le-mul c.if-n-gt193.false c.if-m-gt193.false)

mul-if4-2 : tie.Need-overflow_mul-n-2
mul-if4-2 c = let n = c.if-n-gt193.false in omega (arith, mul-le-mul n n)

add-if4 : tie.Need-overflow_add-n
add-if4 c = let n = c.if-n-gt193.false in omega (arith, mul-le-mul n c.if-m-gt193.false, mul-le-mul n n)

returns-4 : tie.Need-returns-then-v-n
returns-4 c =
    rw (le-ltb 193 _ c.if-n-gt193.false, le-ltb 193 _ c.if-m-gt193.false, le-ltb _ _ c.if-r-m.false, ne_eqb _ _ c.if-v-n.true)

returns-5 : tie.Need-returns
returns-5 c =
    rw (le-ltb 193 _ c.if-n-gt193.false, le-ltb 193 _ c.if-m-gt193.false, le-ltb _ _ c.if-r-m.false, eq-eqb _ _ c.if-v-n.false)
    c.damped_step.ensures.1

pub slew_damped_step_spec : {M : Type 1} → statement M
slew_damped_step_spec =
    tie.close
    (tie.spec
    returns returns_2 returns_3 mul-if4 mul-if4-2 add-if4 returns-4 (λ c κs. search rules) (λ c. search rules)
    (λ c. search rules) returns-5)
