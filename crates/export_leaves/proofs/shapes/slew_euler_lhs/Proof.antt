-- `export_leaves::shapes::slew_euler_lhs` meets its contract, by the contracts of what it calls. Assumes nothing.
use borrow.Author.Rules.{rules}
use Rattle.export_leaves.proofs.shapes.slew_euler_lhs.Statement.{statement}
use Rattle.export_leaves.proofs.shapes.slew_euler_lhs.Tie as tie

returns : tie.Need-returns
returns c = rw (c.euler_lhs.ensures, c.tensor.ensures)

pub slew_euler_lhs_spec : {M : Type 1} → statement M
slew_euler_lhs_spec = tie.close (tie.spec (λ c κs. search rules) (λ c κs. search rules) returns)
