use Rattle.std.proofs.Common.{◌≡◌, length}
use Rattle.control_rows.specs.Stored.{stored}
use Rattle.reference_checks.specs.Checks as Checks
use Rattle.reference_checks.proofs.powers.Given as goal

-- the first i controls have become powers
abbrev pub invariant-loop-i : goal.invariant-loop-i
invariant-loop-i l = (length l.out ≡ 12) × (l.out ≡ stored (Checks.power_at l.axes l.w) l.initial.out l.i)
