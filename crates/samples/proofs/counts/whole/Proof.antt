-- `samples::counts::whole` meets its contract: as an i64 it is the same number, and up to 2^53 the cast to a float loses nothing.
use Rattle.std.proofs.Common.{◌^◌, arith, le→leb, w64, rules}
use lib.Ieee.{in_float}
use mir.Facts.{to_z_pos}
use Rattle.samples.proofs.counts.whole.Statement.{statement}
use Rattle.samples.proofs.counts.whole.Tie as tie

int-to-float-result : tie.Need-int_to_float-result
unfolding in_float
int-to-float-result c = rw (to_z_pos w64 {n = c.args.n} (omega arith)) (le→leb c.args.n (2 ^ 53) (omega arith))

returns : tie.Need-returns
returns c = rw (to_z_pos w64 {n = c.args.n} (omega arith))

pub whole_spec : {M : Type 1} → statement M
whole_spec = tie.close (tie.spec (λ c. search rules) int-to-float-result returns)
