-- `mosaic_answer::read_counted` meets its contract: each way out is its definition's, by the tests that lead there. Assumes nothing.
use borrow.Author.Rules.{rules}
use Rattle.mosaic_answer.specs.MosaicAnswers.{counted}
use Rattle.mosaic_answer.proofs.read_counted.Statement.{statement}
use Rattle.mosaic_answer.proofs.read_counted.Tie as tie

returns : tie.Need-returns-in-Err
unfolding counted
returns c = rw (← c.read_mosaic-m.ensures, c.in-Err.is)

returns_2 : tie.Need-returns-in-Ok
unfolding counted
returns_2 c =
    let e = c.before.before in
    rw (← e.read_mosaic-m.ensures, e.in-Ok.is) (rw c.check_count.ensures at c.with_fate.ensures)

pub read_counted_spec : {M : Type 1} → statement M
read_counted_spec = tie.close (tie.spec (search rules) (search rules) (search rules) (search rules) (search rules) returns returns_2)
