-- `export_mosaic::put_cursor` meets its contract: the same counts and numbers in the same order. Assumes nothing.
use mathlib.Core.Path.{refl}
use borrow.Author.Rules.{rules}
use Rattle.export_mosaic.proofs.put_cursor.Statement.{statement}
use Rattle.export_mosaic.proofs.put_cursor.Tie as tie

returns : tie.Need-returns
returns c =
    let number = c.before.before.before in
    record {
      number_is = number.number_of-number.ensures;
      counts_are = rw (number.number_of-number.ensures, c.place_of-place.ensures);
      sums_are = refl;
    }

pub put_cursor_spec : {M : Type 1} → statement M
put_cursor_spec =
    tie.close
    (tie.spec
    (λ c κs. search rules)
    (λ c κs. search rules)
    (λ c. search rules) (λ c. search rules) (λ c. search rules) (λ c. search rules)
    (λ c. search rules) (λ c. search rules) (λ c. search rules) (λ c. search rules)
    returns)
