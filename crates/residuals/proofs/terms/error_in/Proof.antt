-- `residuals::terms::error_in` meets its contract: the quaternion of the row, and the contract of the turn between two attitudes.
use Rattle.forward.specs.Rows.{node_from}
use borrow.Author.Rules.{rules}
use Rattle.residuals.proofs.terms.error_in.Statement.{statement}
use Rattle.residuals.proofs.terms.error_in.Tie as tie

returns : tie.Need-returns
unfolding node_from
returns c = rw (c.rotation_between.ensures, c.attitude_in-q.ensures)

pub error_in_spec : {M : Type 1} → statement M
error_in_spec =
    tie.close
    (tie.spec
    (λ c κs. search rules)
    (λ c κs. search rules)
    returns)
