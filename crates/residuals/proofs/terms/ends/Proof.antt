-- `residuals::terms::ends` meets its contract: three numbers from place 0 on, then three from place 3 on.
use lib.Ieee as Ieee
use Rattle.residuals.specs.Residuals as Residuals
use borrow.Author.Rules.{rules}
use Rattle.residuals.proofs.terms.ends.Statement.{statement}
use Rattle.residuals.proofs.terms.ends.Tie as tie

returns : tie.Need-returns
unfolding Residuals.ends Ieee.of_bits
returns c =
    let scale3 = c.scale3 in
    rw (c.put3-2.ensures, c.scale3-2.ensures, c.put3.ensures, scale3.ensures)

pub ends_spec : {M : Type 1} → statement M
ends_spec =
    tie.close
    (tie.spec
    (λ c κs. search rules)
    (λ c κs. search rules)
    (λ c κs. search rules)
    (λ c κs. search rules)
    returns)
