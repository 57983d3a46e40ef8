-- Before turn j the first j planes stand before the rest of the output.
use Rattle.std.proofs.Common.{◌≡◌, ◌*◌, ◌++◌, length, drop}
use Rattle.byte_planes.specs.Planes.{deltas, first_planes}
use Rattle.byte_planes.proofs.encode.Given as goal

abbrev pub invariant-loop-j : goal.invariant-loop-j
invariant-loop-j l = l.out ≡ first_planes l.j (deltas l.column) ++ drop (l.j * length l.column) l.fn.out
