-- `canonical::counts_fate` meets its contract: each way out is its definition's, by the tests that lead there. Assumes nothing.
use borrow.Author.Tests.{lt-ltb, le-ltb}
use Rattle.canonical.specs.CanonicalTexts.{counts_fate}
use Rattle.canonical.proofs.counts_fate.Statement.{statement}
use Rattle.canonical.proofs.counts_fate.Tie as tie

returns : tie.Need-returns-then-a-gt8
unfolding counts_fate
returns c = simp (lt-ltb _ _ c.if-a-gt8.true)

returns_2 : tie.Need-returns-then-a-gt12
unfolding counts_fate
returns_2 c = simp (le-ltb _ _ c.if-a-gt8.false, lt-ltb _ _ c.if-a-gt12.true)

returns_3 : tie.Need-returns
unfolding counts_fate
returns_3 c = simp (le-ltb _ _ c.if-a-gt8.false, le-ltb _ _ c.if-a-gt12.false)

pub counts_fate_spec : {M : Type 1} → statement M
counts_fate_spec = tie.close (tie.spec returns returns_2 returns_3)
