-- Two comparisons with the infinities, each outcome closed by a lemma of `Arms`.
use Rattle.std.proofs.Common.{rules}
use lib.Ieee.{nan_bits}
use Rattle.float.proofs.Arms.{arms}
use Rattle.float.proofs.is_finite.Goals as goal

pub float_from_bits-inf : goal.float_from_bits-inf
unfolding nan_bits
float_from_bits-inf c = search rules

pub returns-then-x-inf : goal.returns-then-x-inf
returns-then-x-inf c = search (arms, rules)

pub returns-else-x-inf : goal.returns-else-x-inf
returns-else-x-inf c = search (arms, rules)
