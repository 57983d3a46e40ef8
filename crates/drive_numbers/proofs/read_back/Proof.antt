-- `drive_numbers::read_back` meets its contract: the word stands for the number itself (`to_z-of_z`); the product is the definition's in either unit.
use mathlib.Core.Path.{sym, ap, ◌∙◌}
use borrow.Author.Rules.{rules}
use mir.Facts.{to_z-of_z}
use lib.IntN.{ℤ}
use lib.Ieee.{binary64, mul, of_int, of_bits}
use Rattle.drive_numbers.specs.Numbers.{read_back_value}
use Rattle.drive_numbers.proofs.read_back.Statement.{statement}
use Rattle.drive_numbers.proofs.read_back.Tie as tie

returns : tie.Need-returns-in-Fine
unfolding read_back_value
returns c =
    ap (λ (z : ℤ). mul binary64 (of_int binary64 z) (of_bits binary64 4472074429978902528)) (to_z-of_z c.ranges.n)
    ∙ ap (read_back_value c.args.n) (sym c.in-Fine.is)

returns_2 : tie.Need-returns-in-Coarse
unfolding read_back_value
returns_2 c =
    ap (λ (z : ℤ). mul binary64 (of_int binary64 z) (of_bits binary64 4517110426252607488)) (to_z-of_z c.ranges.n)
    ∙ ap (read_back_value c.args.n) (sym c.in-Coarse.is)

pub read_back_spec : {M : Type 1} → statement M
read_back_spec = tie.close (tie.spec (λ c. search rules) (λ c. search rules) (λ c. search rules) (λ c. search rules) returns returns_2)
