-- `held_counts::counted` meets its contract: each way out is a case of the definition, told by the tests on the way. Assumes nothing.
use borrow.Author.Rules.{rules}
use Rattle.held_counts.proofs.counted.Statement.{statement}
use Rattle.held_counts.proofs.counted.Tie as tie

returns : tie.Need-returns-then-h
returns c = rw (rw c.hold-h.ensures at c.if-h.true)

returns_2 : tie.Need-returns-else-h
returns_2 c = rw (rw c.hold-h.ensures at c.if-h.false)

pub counted_spec : {M : Type 1} → statement M
counted_spec = tie.close (tie.spec (λ c κs. search rules) (λ c. search rules) returns returns_2)
