-- `export_mosaic::cursor_of` meets its contract: the same counts and numbers in the same order. Assumes nothing.
use borrow.Author.Rules.{rules}
use Rattle.export_mosaic.proofs.cursor_of.Statement.{statement}
use Rattle.export_mosaic.proofs.cursor_of.Tie as tie

returns : tie.Need-returns
returns c = rw c.fate_of-fate.ensures

pub cursor_of_spec : {M : Type 1} → statement M
cursor_of_spec =
    tie.close
    (tie.spec
    (λ c. search rules) (λ c. search rules) (λ c. search rules) (λ c. search rules) (λ c. search rules)
    (λ c. search rules) (λ c. search rules) (λ c. search rules) (λ c. search rules) (λ c. search rules)
    (λ c κs. search rules)
    (λ c. search rules) (λ c. search rules) (λ c. search rules) (λ c. search rules)
    returns)
