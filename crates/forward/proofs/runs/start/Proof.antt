-- `forward::runs::start` meets its contract: the parts are the definition's, the body momentum by its own contract.
use Rattle.forward.specs.Runs as Runs
use borrow.Author.Rules.{rules}
use Rattle.forward.proofs.runs.start.Statement.{statement}
use Rattle.forward.proofs.runs.start.Tie as tie

returns : tie.Need-returns
unfolding Runs.start
returns c = rw c.body_momentum-h.ensures

pub start_spec : {M : Type 1} → statement M
start_spec = tie.close (tie.spec (λ c. search rules) (λ c κs. search rules) returns)
