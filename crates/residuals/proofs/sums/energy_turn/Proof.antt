-- `residuals::sums::energy_turn` meets its contract: product, size and sum, as the definition has them.
use Rattle.forward.specs.Rows.{node_from}
use borrow.Author.Rules.{rules}
use Rattle.residuals.proofs.sums.energy_turn.Statement.{statement}
use Rattle.residuals.proofs.sums.energy_turn.Tie as tie

returns : tie.Need-returns
unfolding node_from
returns c = rw (c.abs.ensures, c.dot3.ensures, c.rate_in-w.ensures, c.torque_in-tau.ensures)

pub energy_turn_spec : {M : Type 1} → statement M
energy_turn_spec =
    tie.close
    (tie.spec
    (λ c κs. search rules)
    (λ c κs. search rules)
    (λ c κs. search rules)
    (λ c κs. search rules)
    returns)
