-- `geom::normal_by` meets its contract: each way out is a case of the definition, told by the tests on the way. Assumes nothing.
use borrow.Author.Rules.{rules}
use lib.Ieee.{of_bits}
use Rattle.geom.specs.Quats.{normal_by}
use Rattle.geom.proofs.normal_by.Statement.{statement}
use Rattle.geom.proofs.normal_by.Tie as tie

returns : tie.Need-returns-then-n-is_finite
unfolding normal_by of_bits
returns c = rw (← c.is_finite.ensures, c.if-n-is_finite.true)

returns_2 : tie.Need-returns-then-abs-tolerance
unfolding normal_by of_bits
returns_2 c = rw (← c.is_finite.ensures, c.if-n-is_finite.false, ← c.abs.ensures, c.if-abs-tolerance.true)

returns_3 : tie.Need-returns-else-abs-tolerance
unfolding normal_by of_bits
returns_3 c =
    let is_finite = c.is_finite in
    rw (← is_finite.ensures, c.if-n-is_finite.false, ← c.abs.ensures, c.if-abs-tolerance.false, c.scale.ensures)

pub normal_by_spec : {M : Type 1} → statement M
normal_by_spec = tie.close (tie.spec (λ c κs. search rules) returns (λ c κs. search rules) (λ c κs. search rules) returns_2 returns_3)
