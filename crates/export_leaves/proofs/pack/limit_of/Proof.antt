-- `export_leaves::pack::limit_of` meets its contract: each arm is the definition's. Assumes nothing.
use borrow.Author.Rules.{rules}
use Rattle.export_leaves.proofs.pack.limit_of.Statement.{statement}
use Rattle.export_leaves.proofs.pack.limit_of.Tie as tie

returns : tie.Need-returns-then-with
returns c = rw c.if-with.true

pub limit_of_spec : {M : Type 1} → statement M
limit_of_spec = tie.close (tie.spec returns (λ c. search rules))
