-- `export_leaves::shapes::slew_quat_normalized` meets its contract, by the contracts of what it calls. Assumes nothing.
use borrow.Author.Rules.{rules}
use Rattle.export_leaves.proofs.shapes.slew_quat_normalized.Statement.{statement}
use Rattle.export_leaves.proofs.shapes.slew_quat_normalized.Tie as tie

returns : tie.Need-returns
returns c = rw (c.normalized.ensures, c.quat.ensures) at c.put_normal.ensures

pub slew_quat_normalized_spec : {M : Type 1} → statement M
slew_quat_normalized_spec = tie.close (tie.spec (λ c κs. search rules) (λ c κs. search rules) (λ c κs. search rules) returns)
