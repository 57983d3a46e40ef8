-- After i turns the excess is that of the first i powers.
use Rattle.std.proofs.Common.{◌≡◌}
use Rattle.control_limits.specs.Limits as Limits
use Rattle.control_limits.proofs.power_excess.Given as goal

abbrev pub invariant-loop-i : goal.invariant-loop-i
invariant-loop-i l = l.e ≡ Limits.excess (Limits.power_limit l.powers) (Limits.power l.axes l.u l.omega) l.i
