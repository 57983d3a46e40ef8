-- `angles::fixed::to_float` meets its contract: three cases by sign and zero, a law for each; a zero stays positive.
use Rattle.angles.proofs.Rounding.{float_zero, float_neg, float_pos}
use Rattle.std.proofs.Common.{rules}
use Rattle.angles.proofs.fixed.to_float.Statement.{statement}
use Rattle.angles.proofs.fixed.to_float.Tie as tie

returns : tie.Need-returns-then-n-eq0
returns c = float_zero _ _ _ c.if-negative.true c.if-n-eq0.true c.over_60-x.ensures

returns_2 : tie.Need-returns-else-n-eq0
returns_2 c = float_neg _ _ _ c.if-negative.true c.if-n-eq0.false c.over_60-x.ensures

returns_3 : tie.Need-returns-else-negative
returns_3 c = float_pos _ _ _ c.if-negative.false c.over_60-x.ensures

pub to_float_spec : {M : Type 1} → statement M
to_float_spec = tie.close (tie.spec (λ c κs. search rules) returns returns_2 returns_3)
