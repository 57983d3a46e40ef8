-- `forward::decisions::project_decision` meets its contract: the clamp of the duration, then the loop's own contract for the rows.
use lib.Ieee as Ieee
use Rattle.forward.specs.Decisions as Decisions
use native.Mathlib.Omega.{arith}
use borrow.Author.Rules.{rules}
use Rattle.forward.proofs.decisions.project_decision.Statement.{statement}
use Rattle.forward.proofs.decisions.project_decision.Tie as tie

returns : tie.Need-returns
unfolding Decisions.project_decision Ieee.of_bits
returns c = rw (c.project_rows.ensures, c.clamp.ensures)

pub project_decision_spec : {M : Type 1} → statement M
project_decision_spec =
    tie.close
    (tie.spec
    (λ c κs. search rules)
    (λ c. search rules)
    (λ c κs. search rules)
    (λ c. search rules)
    (λ c κs. search rules)
    returns)
