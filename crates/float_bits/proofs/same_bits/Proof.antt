-- `float_bits::same_bits` meets its contract: patterns are asked only of numbers. Assumes nothing.
use mathlib.Core.Path.{sym, subst}
use lib.Dec.{T}
use Rattle.float_bits.specs.BitLaws.{no_nan, first_nan, second_nan, same_patterns}
use Rattle.float_bits.proofs.same_bits.Statement.{statement}
use Rattle.float_bits.proofs.same_bits.Tie as tie

returns : tie.Need-returns-then-a
returns c = first_nan _ _ c.if-a.true

returns_2 : tie.Need-returns-then-b
returns_2 c = second_nan _ _ c.if-a.false c.if-b.true

float-to-bits-result : tie.Need-float_to_bits-result
float-to-bits-result c = no_nan _ c.if-a.false

float-to-bits-result-2 : tie.Need-float_to_bits-result-2
float-to-bits-result-2 c = no_nan _ c.if-b.false

returns_3 : tie.Need-returns
returns_3 c = same_patterns _ _ (subst T (sym c.before.before.well_formed.0.1) tt) (subst T (sym c.before.before.well_formed.1.0.1) tt)

pub same_bits_spec : {M : Type 1} → statement M
same_bits_spec =
    tie.close (tie.spec returns returns_2 float-to-bits-result float-to-bits-result-2 returns_3)
