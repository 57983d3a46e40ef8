-- `export_leaves::turns::slew_acos` meets its contract, by the contracts of what it calls. Assumes nothing.
use borrow.Author.Rules.{rules}
use Rattle.export_leaves.proofs.turns.slew_acos.Statement.{statement}
use Rattle.export_leaves.proofs.turns.slew_acos.Tie as tie

returns : tie.Need-returns
returns c = (
  rw (c.put_angle.ensures.number_is, c.acos.ensures),
  rw (c.put_angle.ensures.value_is, c.acos.ensures),
)

pub slew_acos_spec : {M : Type 1} → statement M
slew_acos_spec = tie.close (tie.spec (λ c κs. search rules) (λ c κs. search rules) returns)
