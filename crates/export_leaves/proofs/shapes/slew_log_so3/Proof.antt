-- `export_leaves::shapes::slew_log_so3` meets its contract, by the contracts of what it calls. Assumes nothing.
use borrow.Author.Rules.{rules}
use Rattle.export_leaves.proofs.shapes.slew_log_so3.Statement.{statement}
use Rattle.export_leaves.proofs.shapes.slew_log_so3.Tie as tie

returns : tie.Need-returns
returns c = rw (c.log_so3.ensures, c.quat.ensures) at c.put_rotation.ensures

pub slew_log_so3_spec : {M : Type 1} → statement M
slew_log_so3_spec = tie.close (tie.spec (λ c κs. search rules) (λ c κs. search rules) (λ c κs. search rules) returns)
