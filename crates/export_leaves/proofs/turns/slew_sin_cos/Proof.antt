-- `export_leaves::turns::slew_sin_cos` meets its contract, by the contracts of what it calls. Assumes nothing.
use borrow.Author.Rules.{rules}
use Rattle.export_leaves.proofs.turns.slew_sin_cos.Statement.{statement}
use Rattle.export_leaves.proofs.turns.slew_sin_cos.Tie as tie

returns : tie.Need-returns
returns c = (
  rw (c.put_both.ensures.number_is, c.sin_cos.ensures),
  rw (c.put_both.ensures.value_is, c.sin_cos.ensures),
)

pub slew_sin_cos_spec : {M : Type 1} → statement M
slew_sin_cos_spec = tie.close (tie.spec (λ c κs. search rules) (λ c κs. search rules) returns)
