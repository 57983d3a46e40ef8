-- `export_leaves::shapes::slew_apply_tensor` meets its contract, by the contracts of what it calls. Assumes nothing.
use borrow.Author.Rules.{rules}
use Rattle.export_leaves.proofs.shapes.slew_apply_tensor.Statement.{statement}
use Rattle.export_leaves.proofs.shapes.slew_apply_tensor.Tie as tie

returns : tie.Need-returns
returns c = rw (c.apply_tensor.ensures, c.tensor.ensures)

pub slew_apply_tensor_spec : {M : Type 1} → statement M
slew_apply_tensor_spec = tie.close (tie.spec (λ c κs. search rules) (λ c κs. search rules) returns)
