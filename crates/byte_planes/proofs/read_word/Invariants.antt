-- Before turn j the word holds its first j bytes, and has room for one more.
use Rattle.std.proofs.Common.{◌≡◌, ◌*◌, ◌^◌, ◌<◌}
use Rattle.byte_planes.specs.Planes.{word_at}
use Rattle.byte_planes.proofs.read_word.Given as goal

abbrev pub invariant-loop-j : goal.invariant-loop-j
invariant-loop-j l = record {
  read : l.w ≡ word_at l.bytes l.n l.i l.j;
  below : l.w < 2 ^ (8 * l.j);
}
