-- `control_limits::larger_excess` meets its contract: each step is its definition's. Assumes nothing.
use borrow.Author.Rules.{rules}
use Rattle.control_limits.proofs.larger_excess.Statement.{statement}
use Rattle.control_limits.proofs.larger_excess.Tie as tie

returns_2 : tie.Need-returns-in-Some
returns_2 c = rw (c.in-Some.is, c.max.ensures, c.abs.ensures)

pub larger_excess_spec : {M : Type 1} → statement M
larger_excess_spec = tie.close (tie.spec (λ c. search rules) (λ c. search rules) (λ c κs. search rules) (λ c κs. search rules) (λ c. search rules) returns_2)
