-- Before word i the first i bytes of the plane stand in the output, and `previous` is the word before word i.
use Rattle.std.proofs.Common.{◌≡◌, ◌∷◌, get_or}
use Rattle.std.proofs.Math.Seq.{paste}
use Rattle.byte_planes.specs.Planes.{deltas, plane}
use Rattle.byte_planes.proofs.put_plane.Given as goal

abbrev pub invariant-loop-i : goal.invariant-loop-i
invariant-loop-i l = record {
  before : l.previous ≡ get_or (0 ∷ l.column) l.i 0;
  put : l.out ≡ paste l.fn.out l.at (plane l.j (deltas l.column)) l.i;
}
