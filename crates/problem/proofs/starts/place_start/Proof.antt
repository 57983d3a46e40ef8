-- `problem::starts::place_start` meets its contract: each way out is a case of the definition, told by the tests on the way. Assumes nothing.
use lib.Ieee as Ieee
use borrow.Author.Tests.{lt-ltb, le-ltb}
use Rattle.problem.proofs.starts.place_start.Statement.{statement}
use Rattle.problem.proofs.starts.place_start.Tie as tie

returns : tie.Need-returns-then-k-n
returns c = rw (lt-ltb _ _ c.if-k-n.true)

returns_2 : tie.Need-returns-else-k-n
unfolding Ieee.of_bits
returns_2 c = rw (le-ltb _ _ c.if-k-n.false)

pub place_start_spec : {M : Type 1} → statement M
place_start_spec = tie.close (tie.spec returns returns_2)
