-- `export_leaves::shapes::slew_invert_spd` meets its contract, by the contracts of what it calls. Assumes nothing.
use borrow.Author.Rules.{rules}
use Rattle.export_leaves.proofs.shapes.slew_invert_spd.Statement.{statement}
use Rattle.export_leaves.proofs.shapes.slew_invert_spd.Tie as tie

returns : tie.Need-returns
returns c = rw (c.invert_spd.ensures, c.tensor.ensures) at c.put_inverse.ensures

pub slew_invert_spd_spec : {M : Type 1} → statement M
slew_invert_spd_spec = tie.close (tie.spec (λ c κs. search rules) (λ c κs. search rules) (λ c κs. search rules) returns)
