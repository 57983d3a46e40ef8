-- `geom::unit3` meets its contract: each way out is a case of the definition, told by the test on the way. Assumes nothing.
use borrow.Author.Rules.{rules}
use lib.Ieee.{of_bits}
use Rattle.geom.specs.Quats.{unit_by}
use Rattle.geom.proofs.unit3.Statement.{statement}
use Rattle.geom.proofs.unit3.Tie as tie

returns : tie.Need-returns-then-n-is_finite
unfolding unit_by of_bits
returns c = rw (← c.norm3-n.ensures, ← c.is_finite.ensures, c.if-n-is_finite.true)

returns_2 : tie.Need-returns
unfolding unit_by of_bits
returns_2 c = rw (← c.norm3-n.ensures, ← c.is_finite.ensures, c.if-n-is_finite.false)

pub unit3_spec : {M : Type 1} → statement M
unit3_spec =
    tie.close
    (tie.spec
    (λ c κs. search rules) (λ c κs. search rules) returns (λ c. search rules) (λ c. search rules) (λ c. search rules) returns_2)
