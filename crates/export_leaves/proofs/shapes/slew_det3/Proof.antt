-- `export_leaves::shapes::slew_det3` meets its contract, by the contracts of what it calls. Assumes nothing.
use borrow.Author.Rules.{rules}
use Rattle.export_leaves.proofs.shapes.slew_det3.Statement.{statement}
use Rattle.export_leaves.proofs.shapes.slew_det3.Tie as tie

returns : tie.Need-returns
returns c = rw (c.det3.ensures, c.tensor.ensures)

pub slew_det3_spec : {M : Type 1} → statement M
slew_det3_spec = tie.close (tie.spec (λ c κs. search rules) (λ c κs. search rules) returns)
