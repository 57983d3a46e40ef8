-- `export_leaves::turns::slew_cos` meets its contract, by the contracts of what it calls. Assumes nothing.
use borrow.Author.Rules.{rules}
use Rattle.export_leaves.proofs.turns.slew_cos.Statement.{statement}
use Rattle.export_leaves.proofs.turns.slew_cos.Tie as tie

returns : tie.Need-returns
returns c = (
  rw (c.put_angle.ensures.number_is, c.cos.ensures),
  rw (c.put_angle.ensures.value_is, c.cos.ensures),
)

pub slew_cos_spec : {M : Type 1} → statement M
slew_cos_spec = tie.close (tie.spec (λ c κs. search rules) (λ c κs. search rules) returns)
