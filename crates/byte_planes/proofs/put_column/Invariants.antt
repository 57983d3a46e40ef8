-- Before turn i the first i words stand before the rest of the output, and `previous` is the word before word i.
use Rattle.std.proofs.Common.{◌≡◌, ◌∷◌, ◌++◌, get_or, take, drop}
use Rattle.byte_planes.specs.Planes.{restored}
use Rattle.byte_planes.proofs.put_column.Given as goal

abbrev pub invariant-loop-i : goal.invariant-loop-i
invariant-loop-i l = record {
  before : l.previous ≡ get_or (0 ∷ restored l.bytes l.n) l.i 0;
  put : l.out ≡ take l.i (restored l.bytes l.n) ++ drop l.i l.fn.out;
}
