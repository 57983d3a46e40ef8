-- `export_leaves::courses::slew_alpha_from_box` meets its contract, by the contracts of what it calls. Assumes nothing.
use borrow.Author.Rules.{rules}
use Rattle.export_leaves.proofs.courses.slew_alpha_from_box.Statement.{statement}
use Rattle.export_leaves.proofs.courses.slew_alpha_from_box.Tie as tie

returns : tie.Need-returns
returns c = rw (c.alpha_from_box.ensures, c.tensor.ensures) at c.put_acceleration.ensures

pub slew_alpha_from_box_spec : {M : Type 1} → statement M
slew_alpha_from_box_spec = tie.close (tie.spec (λ c κs. search rules) (λ c κs. search rules) (λ c κs. search rules) returns)
