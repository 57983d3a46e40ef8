-- `export_leaves::shapes::slew_quat_norm` meets its contract, by the contracts of what it calls. Assumes nothing.
use borrow.Author.Rules.{rules}
use Rattle.export_leaves.proofs.shapes.slew_quat_norm.Statement.{statement}
use Rattle.export_leaves.proofs.shapes.slew_quat_norm.Tie as tie

returns : tie.Need-returns
returns c = rw (c.norm.ensures, c.quat.ensures)

pub slew_quat_norm_spec : {M : Type 1} → statement M
slew_quat_norm_spec = tie.close (tie.spec (λ c κs. search rules) (λ c κs. search rules) returns)
