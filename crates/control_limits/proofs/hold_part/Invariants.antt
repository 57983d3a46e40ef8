-- After i turns the first i controls are held and the others are as they were.
use Rattle.std.proofs.Common.{◌≡◌, length}
use Rattle.common.specs.Lists.{at}
use Rattle.control_limits.specs.Limits as Limits
use Rattle.control_rows.specs.Stored as Stored
use Rattle.control_limits.proofs.hold_part.Given as goal

abbrev pub invariant-loop-i : goal.invariant-loop-i
invariant-loop-i l = (length l.u ≡ length l.initial.u) × (l.u ≡ Stored.stored (Limits.hold_at (at l.limits)) l.initial.u l.i)
