-- `residuals::sums::smooth_turn` meets its contract: the length of the rate's change, its square and the sum, as the definition has them.
use lib.Ieee as Ieee
use Rattle.forward.specs.Rows.{node_from}
use Rattle.residuals.specs.Sums as Sums
use borrow.Author.Rules.{rules}
use Rattle.residuals.proofs.sums.smooth_turn.Statement.{statement}
use Rattle.residuals.proofs.sums.smooth_turn.Tie as tie

returns : tie.Need-returns
unfolding Sums.smooth_of Ieee.of_bits node_from
returns c =
    let rate-in = c.rate_in-w in
    rw (c.norm3-x.ensures, c.scale3.ensures, c.sub3.ensures, c.rate_in-w2.ensures, rate-in.ensures)

pub smooth_turn_spec : {M : Type 1} → statement M
smooth_turn_spec =
    tie.close
    (tie.spec
    (λ c κs. search rules)
    (λ c κs. search rules)
    (λ c κs. search rules)
    (λ c κs. search rules)
    (λ c κs. search rules)
    returns)
