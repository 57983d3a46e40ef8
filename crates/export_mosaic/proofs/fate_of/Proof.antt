-- `export_mosaic::fate_of` meets its contract: its test is the definition's. Assumes nothing.
use borrow.Author.Tests.{eq-eqb, ne_eqb}
use Rattle.export_mosaic.proofs.fate_of.Statement.{statement}
use Rattle.export_mosaic.proofs.fate_of.Tie as tie

returns : tie.Need-returns-then-number-eq0
returns c = rw (eq-eqb _ 0 c.if-number-eq0.true)

returns_2 : tie.Need-returns
returns_2 c = rw (ne_eqb _ 0 c.if-number-eq0.false)

pub fate_of_spec : {M : Type 1} → statement M
fate_of_spec = tie.close (tie.spec returns returns_2)
