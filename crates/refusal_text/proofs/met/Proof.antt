-- `refusal_text::met` meets its contract: each step is its definition's. Assumes nothing.
use borrow.Author.Tests.{eq-eqb, ne_eqb}
use borrow.Author.Rules.{rules}
use Rattle.refusal_text.specs.Sentences.{met}
use Rattle.refusal_text.proofs.met.Statement.{statement}
use Rattle.refusal_text.proofs.met.Tie as tie

sampled : tie.Need-returns-then-sampled
unfolding met
sampled c = search rules

before-runs : tie.Need-returns-then-runs-eq0
unfolding met
before-runs c = rw (c.if-sampled.false, eq-eqb _ _ c.if-runs-eq0.true)

in-runs : tie.Need-returns-else-runs-eq0
unfolding met
in-runs c = rw (c.if-sampled.false, ne_eqb _ _ c.if-runs-eq0.false)

pub met_spec : {M : Type 1} → statement M
met_spec = tie.close (tie.spec sampled before-runs in-runs)
