-- `export_eigenaxis::shape_of` meets its contract: the two numbers that name a shape, and every other, are the definition's three cases.
use Rattle.export_eigenaxis.proofs.shape_of.Statement.{statement}
use Rattle.export_eigenaxis.proofs.shape_of.Tie as tie

pub shape_of_spec : {M : Type 1} → statement M
shape_of_spec = tie.close (tie.spec (λ c. rw c.if-gentle.true) (λ c. rw c.if-gentle.false))
