-- `export_leaves::shapes::slew_quat_scale` meets its contract, by the contracts of what it calls. Assumes nothing.
use borrow.Author.Rules.{rules}
use Rattle.export_leaves.proofs.shapes.slew_quat_scale.Statement.{statement}
use Rattle.export_leaves.proofs.shapes.slew_quat_scale.Tie as tie

returns : tie.Need-returns
returns c = rw (c.four.ensures, c.scale.ensures, c.quat.ensures)

pub slew_quat_scale_spec : {M : Type 1} → statement M
slew_quat_scale_spec = tie.close (tie.spec (λ c κs. search rules) (λ c κs. search rules) (λ c κs. search rules) returns)
