-- `residuals::terms::weighted` meets its contract: two roots and a product, as the definition has them.
use borrow.Author.Rules.{rules}
use Rattle.residuals.proofs.terms.weighted.Statement.{statement}
use Rattle.residuals.proofs.terms.weighted.Tie as tie

returns : tie.Need-returns
returns c = rw (c.sqrt-2.ensures, c.sqrt.ensures)

pub weighted_spec : {M : Type 1} → statement M
weighted_spec = tie.close (tie.spec (λ c κs. search rules) (λ c κs. search rules) returns)
