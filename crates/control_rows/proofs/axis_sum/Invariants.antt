-- After i axes the sum is that of the first i.
use Rattle.std.proofs.Common.{◌≡◌, length}
use Rattle.control_rows.specs.Parts as Parts
use Rattle.control_rows.proofs.axis_sum.Given as goal

abbrev pub invariant-loop-i : goal.invariant-loop-i
invariant-loop-i l = (length l.e ≡ 3) × (l.e ≡ Parts.axes l.axes l.u l.initial.e l.i)
