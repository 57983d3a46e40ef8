-- `export_leaves::turns::slew_sin` meets its contract, by the contracts of what it calls. Assumes nothing.
use borrow.Author.Rules.{rules}
use Rattle.export_leaves.proofs.turns.slew_sin.Statement.{statement}
use Rattle.export_leaves.proofs.turns.slew_sin.Tie as tie

returns : tie.Need-returns
returns c = (
  rw (c.put_angle.ensures.number_is, c.sin.ensures),
  rw (c.put_angle.ensures.value_is, c.sin.ensures),
)

pub slew_sin_spec : {M : Type 1} → statement M
slew_sin_spec = tie.close (tie.spec (λ c κs. search rules) (λ c κs. search rules) returns)
