-- `angles::fixed::over_60` meets its contract: each half over 2^60 is a float exactly, so that only the sum rounds (`over_60_law`).
use Rattle.angles.proofs.Rounding.{upper_in, lower_in, over_60_law}
use Rattle.angles.proofs.fixed.over_60.Statement.{statement}
use Rattle.angles.proofs.fixed.over_60.Tie as tie

int-to-float-result : tie.Need-int_to_float-result
int-to-float-result c = upper_in c.args.n c.ranges.n.fits

int-to-float-result-2 : tie.Need-int_to_float-result-2
int-to-float-result-2 c = lower_in c.args.n

returns : tie.Need-returns
returns c = over_60_law c.args.n c.ranges.n.fits

pub over_60_spec : {M : Type 1} → statement M
over_60_spec = tie.close (tie.spec int-to-float-result int-to-float-result-2 returns)
