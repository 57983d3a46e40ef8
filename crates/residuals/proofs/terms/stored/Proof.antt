-- `residuals::terms::stored` meets its contract: the contract of the length that it calls.
use borrow.Author.Rules.{rules}
use Rattle.residuals.proofs.terms.stored.Statement.{statement}
use Rattle.residuals.proofs.terms.stored.Tie as tie

returns : tie.Need-returns
returns c = c.norm_slice.ensures

pub stored_spec : {M : Type 1} → statement M
stored_spec =
    tie.close
    (tie.spec
    (λ c. search rules)
    (λ c κs. search rules)
    returns)
