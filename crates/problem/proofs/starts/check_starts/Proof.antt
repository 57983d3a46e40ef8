-- `problem::starts::check_starts` meets its contract: each way out is a case of the definition, told by the test on the way. Assumes nothing.
use borrow.Author.Rules.{rules}
use Rattle.problem.specs.Starts.{check_starts}
use Rattle.problem.proofs.starts.check_starts.Statement.{statement}
use Rattle.problem.proofs.starts.check_starts.Tie as tie

returns : tie.Need-returns-then-k-n
unfolding check_starts
returns c = rw (← c.leading_starts-k.ensures, c.if-k-n.true)

returns_2 : tie.Need-returns-else-k-n
unfolding check_starts
returns_2 c = rw (← c.leading_starts-k.ensures, c.if-k-n.false)

pub check_starts_spec : {M : Type 1} → statement M
check_starts_spec = tie.close (tie.spec (λ c κs. search rules) returns returns_2)
