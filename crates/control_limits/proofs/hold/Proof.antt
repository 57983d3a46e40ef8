-- `control_limits::hold` meets its contract: each step is its definition's. Assumes nothing.
use Rattle.control_limits.specs.Limits as Limits
use borrow.Author.Rules.{rules}
use Rattle.control_limits.proofs.hold.Statement.{statement}
use Rattle.control_limits.proofs.hold.Tie as tie

returns : tie.Need-returns
unfolding Limits.hold
returns c = rw (c.clamp.ensures, c.abs.ensures)

pub hold_spec : {M : Type 1} → statement M
hold_spec = tie.close (tie.spec (λ c κs. search rules) (λ c κs. search rules) returns)
