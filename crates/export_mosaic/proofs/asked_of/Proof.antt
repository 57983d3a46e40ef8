-- `export_mosaic::asked_of` meets its contract: its tests are the definition's. Assumes nothing.
use borrow.Author.Tests.{eq-eqb, ne_eqb}
use Rattle.export_mosaic.proofs.asked_of.Statement.{statement}
use Rattle.export_mosaic.proofs.asked_of.Tie as tie

returns : tie.Need-returns-then-way-eq0
returns c = rw (eq-eqb _ 0 c.if-way-eq0.true)

returns_2 : tie.Need-returns-then-way-eq1
returns_2 c = rw (ne_eqb _ 0 c.if-way-eq0.false, eq-eqb _ 1 c.if-way-eq1.true)

returns_3 : tie.Need-returns-then-way-eq2
returns_3 c = rw (ne_eqb _ 0 c.if-way-eq0.false, ne_eqb _ 1 c.if-way-eq1.false, eq-eqb _ 2 c.if-way-eq2.true)

returns-4 : tie.Need-returns
returns-4 c = rw (ne_eqb _ 0 c.if-way-eq0.false, ne_eqb _ 1 c.if-way-eq1.false, ne_eqb _ 2 c.if-way-eq2.false)

pub asked_of_spec : {M : Type 1} → statement M
asked_of_spec = tie.close (tie.spec returns returns_2 returns_3 returns-4)
