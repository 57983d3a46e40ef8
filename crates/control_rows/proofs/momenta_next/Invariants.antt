-- After i turns the first i momenta are stored and the others are as they were.
use Rattle.std.proofs.Common.{◌≡◌, length}
use Rattle.control_rows.specs.Parts as Parts
use Rattle.control_rows.specs.Stored as Stored
use Rattle.control_rows.proofs.momenta_next.Given as goal

abbrev pub invariant-loop-i : goal.invariant-loop-i
invariant-loop-i l = (length l.out ≡ 8) × (l.out ≡ Stored.stored (Parts.charged l.u l.dt) l.initial.out l.i)
