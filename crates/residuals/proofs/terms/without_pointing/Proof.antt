-- `residuals::terms::without_pointing` meets its contract: the closing terms from place 23 on, by their own contract.
use native.Mathlib.Omega.{arith}
use Rattle.residuals.specs.Residuals as Residuals
use borrow.Author.Rules.{rules}
use Rattle.residuals.proofs.terms.without_pointing.Statement.{statement}
use Rattle.residuals.proofs.terms.without_pointing.Tie as tie

returns : tie.Need-returns
unfolding Residuals.without_pointing
returns c = rw c.closing.ensures

pub without_pointing_spec : {M : Type 1} → statement M
without_pointing_spec =
    tie.close
    (tie.spec
    (λ c κs. (omega arith, c.requires))
    returns)
