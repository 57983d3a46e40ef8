-- `export_mosaic::slew_mosaic` meets its contract, by the contracts of what it calls. Assumes nothing.
use borrow.Author.Rules.{rules}
use Rattle.export_mosaic.proofs.slew_mosaic.Statement.{statement}
use Rattle.export_mosaic.proofs.slew_mosaic.Tie as tie

returns : tie.Need-returns
returns c =
    let e = rw c.problem_of-p.ensures at c.fill-made.ensures in
    record { cursor_told = rw e.cursor at c.put_cursor.ensures; filled = rw e.cursor at e }

pub slew_mosaic_spec : {M : Type 1} → statement M
slew_mosaic_spec =
    tie.close
    (tie.spec
    (λ c κs. search rules)
    (λ c κs. search rules)
    (λ c κs. search rules)
    (λ c. search rules)
    (λ c. search rules)
    (λ c. search rules)
    (λ c. search rules)
    (λ c. search rules)
    returns)
