-- `export_leaves::shapes::slew_exp_so3` meets its contract, by the contracts of what it calls. Assumes nothing.
use borrow.Author.Rules.{rules}
use Rattle.export_leaves.proofs.shapes.slew_exp_so3.Statement.{statement}
use Rattle.export_leaves.proofs.shapes.slew_exp_so3.Tie as tie

returns : tie.Need-returns
returns c = rw c.exp_so3.ensures at c.put_turned.ensures

pub slew_exp_so3_spec : {M : Type 1} → statement M
slew_exp_so3_spec = tie.close (tie.spec (λ c κs. search rules) (λ c κs. search rules) returns)
