-- `geom::Quat::is_finite` meets its contract: each test is the definition's. Assumes nothing.
use borrow.Author.Rules.{rules}
use Rattle.geom.proofs.Quat.is_finite.Statement.{statement}
use Rattle.geom.proofs.Quat.is_finite.Tie as tie

returns : tie.Need-returns
returns c = rw (c.is_finite-4.ensures, c.is_finite-3.ensures, c.is_finite-2.ensures, c.is_finite.ensures)

pub is_finite_spec : {M : Type 1} → statement M
is_finite_spec = tie.close (tie.spec (λ c κs. search rules) (λ c κs. search rules) (λ c κs. search rules) (λ c κs. search rules) returns)
