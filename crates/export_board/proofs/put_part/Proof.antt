-- `export_board::put_part` meets its contract: each arm is the definition's, and a number that is given fits its type. Assumes nothing.
use mathlib.Core.Path.{refl}
use mir.Facts.{to_z-of_z}
use mir.Syntax.{w32}
use borrow.Author.Rules.{rules}
use Rattle.export_board.proofs.put_part.Statement.{statement}
use Rattle.export_board.proofs.put_part.Tie as tie

returns : tie.Need-returns-in-Some
returns c = rw c.in-Some.is (refl, to_z-of_z {w = w32} (record { sfits = c.in-Some.known_told-1-own.given.0.1 }))

pub put_part_spec : {M : Type 1} → statement M
put_part_spec = tie.close (tie.spec (λ c. search rules) (λ c. search rules) returns (λ c. search rules))
