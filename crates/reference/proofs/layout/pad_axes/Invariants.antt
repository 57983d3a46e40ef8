use Rattle.std.proofs.Common.{◌≡◌, length}
use Rattle.control_rows.specs.Stored.{stored}
use Rattle.reference.specs.Layouts as Layouts
use Rattle.reference.proofs.layout.pad_axes.Given as goal

-- the first i numbers are copied
abbrev pub invariant-loop-i : goal.invariant-loop-i
invariant-loop-i l = (length l.out ≡ 36) × (l.out ≡ stored (Layouts.copy_at l.t) l.initial.out l.i)
