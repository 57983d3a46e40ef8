-- `begun` meets its contract: either case of the test for 0 is the definition's.
use borrow.Author.Tests.{eq-eqb, ne_eqb}
use Rattle.eigenaxis.proofs.begun.Goals as goal

pub returns-then-runs-eq0 : goal.returns-then-runs-eq0
returns-then-runs-eq0 c = rw (eq-eqb _ _ c.if-runs-eq0.true)

pub returns-else-runs-eq0 : goal.returns-else-runs-eq0
returns-else-runs-eq0 c = rw (ne_eqb _ _ c.if-runs-eq0.false)
