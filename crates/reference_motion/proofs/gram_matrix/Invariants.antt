use Rattle.std.proofs.Common.{◌≡◌, length}
use Rattle.common.specs.Iter.{iter}
use Rattle.reference_motion.specs.Momenta.{gram_turn}
use Rattle.reference_motion.proofs.gram_matrix.Given as goal

-- the matrix of the first i axes
abbrev pub invariant-loop-i : goal.invariant-loop-i
invariant-loop-i l = (length l.g ≡ 9) × (l.g ≡ iter (gram_turn l.axes) l.initial.g l.i)
