-- After i turns the excess is that of the first i momenta.
use Rattle.std.proofs.Common.{◌≡◌}
use Rattle.common.specs.Lists.{at}
use Rattle.control_limits.specs.Limits as Limits
use Rattle.control_limits.proofs.momentum_excess.Given as goal

abbrev pub invariant-loop-i : goal.invariant-loop-i
invariant-loop-i l = l.e ≡ Limits.excess (Limits.limit_at l.limits) (at l.hw) l.i
