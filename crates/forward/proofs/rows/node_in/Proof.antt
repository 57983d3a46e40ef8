-- `forward::rows::node_in` meets its contract: each part of the node is its place of the row.
use Rattle.forward.specs.Rows as Rows
use borrow.Author.Rules.{rules}
use Rattle.forward.proofs.rows.node_in.Statement.{statement}
use Rattle.forward.proofs.rows.node_in.Tie as tie

returns : tie.Need-returns
unfolding Rows.node_from
returns c = rw (c.momenta_in-hw.ensures, c.torque_in-tau.ensures, c.rate_in-w.ensures, c.attitude_in-q.ensures)

pub node_in_spec : {M : Type 1} → statement M
node_in_spec =
    tie.close
    (tie.spec
    (λ c κs. search rules)
    (λ c κs. search rules)
    (λ c κs. search rules)
    (λ c. search rules)
    (λ c. search rules)
    (λ c. search rules)
    (λ c κs. search rules)
    (λ c. search rules)
    returns)
