-- `residuals::terms::target_of` meets its contract: each part is read from the problem as the definition reads it.
use borrow.Author.Rules.{rules}
use Rattle.residuals.proofs.terms.target_of.Statement.{statement}
use Rattle.residuals.proofs.terms.target_of.Tie as tie

returns : tie.Need-returns
returns c = rw c.control_dim.ensures

pub target_of_spec : {M : Type 1} → statement M
target_of_spec = tie.close (tie.spec (λ c κs. search rules) returns)
