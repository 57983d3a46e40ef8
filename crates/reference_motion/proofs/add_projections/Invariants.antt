use Rattle.std.proofs.Common.{◌≡◌, length}
use Rattle.control_rows.specs.Stored.{stored}
use Rattle.reference_motion.specs.Momenta.{plus_projection}
use Rattle.reference_motion.proofs.add_projections.Given as goal

-- the first i numbers have their projections
abbrev pub invariant-loop-i : goal.invariant-loop-i
invariant-loop-i l = (length l.out ≡ 12) × (l.out ≡ stored (plus_projection l.axes l.y) l.initial.out l.i)
