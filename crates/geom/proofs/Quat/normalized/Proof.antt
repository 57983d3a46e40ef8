-- `geom::Quat::normalized` meets its contract: each way out is a case of the definition, told by the tests on the way. Assumes nothing.
use borrow.Author.Rules.{rules}
use Rattle.geom.specs.Quats.{normalized}
use Rattle.geom.proofs.Quat.normalized.Statement.{statement}
use Rattle.geom.proofs.Quat.normalized.Tie as tie

returns : tie.Need-returns-then-is_finite
unfolding normalized
returns c = rw (c.normal_by.ensures, c.norm.ensures, ← c.is_finite.ensures, c.if-is_finite.true)

returns_2 : tie.Need-returns-else-is_finite
unfolding normalized
returns_2 c = rw (← c.is_finite.ensures, c.if-is_finite.false)

pub normalized_spec : {M : Type 1} → statement M
normalized_spec = tie.close (tie.spec (λ c κs. search rules) (λ c κs. search rules) (λ c κs. search rules) returns returns_2)
