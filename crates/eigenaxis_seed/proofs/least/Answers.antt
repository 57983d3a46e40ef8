-- `least` meets its contract: either case of the comparison is the definition's, and is at most a.
use native.Mathlib.Omega.{arith}
use borrow.Author.Tests.{lt-ltb, le-ltb}
use Rattle.eigenaxis_seed.proofs.least.Goals as goal

pub returns-then-a-b : goal.returns-then-a-b
returns-then-a-b c = (rw (lt-ltb _ _ c.if-a-b.true), omega arith)

pub returns-else-a-b : goal.returns-else-a-b
returns-else-a-b c = (rw (le-ltb _ _ c.if-a-b.false), omega arith)
