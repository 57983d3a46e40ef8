-- `angles::series::mul_shift` meets its contract: t times 16 u over 2^64 is t times u over 2^60 (`shift_16`).
use Rattle.std.proofs.Common.{◌∙◌, rules}
use Rattle.angles.proofs.Division.{shift_16}
use Rattle.angles.proofs.series.mul_shift.Statement.{statement}
use Rattle.angles.proofs.series.mul_shift.Tie as tie

returns : tie.Need-returns
returns c = c.high_product.ensures ∙ shift_16 c.args.t c.args.u

pub mul_shift_spec : {M : Type 1} → statement M
mul_shift_spec = tie.close (tie.spec (λ c. search rules) (λ c κs. search rules) returns)
