-- `control_limits::fewer` meets its contract: each way out is a case of the definition, told by the tests on the way. Assumes nothing.
use borrow.Author.Tests.{lt-ltb, le-ltb}
use Rattle.control_limits.proofs.fewer.Statement.{statement}
use Rattle.control_limits.proofs.fewer.Tie as tie

returns : tie.Need-returns-then-a-b
returns c = rw (lt-ltb _ _ c.if-a-b.true)

returns_2 : tie.Need-returns-else-a-b
returns_2 c = rw (le-ltb _ _ c.if-a-b.false)

pub fewer_spec : {M : Type 1} → statement M
fewer_spec = tie.close (tie.spec returns returns_2)
