-- The digits read so far, at their weights, and the rest (`more`) make the whole pattern, and this stays below 2 ^ 64.
use Rattle.std.proofs.Common.{◌≡◌, ◌+◌, ◌-◌, ◌≤◌, ◌<◌, ◌^◌, length}
use Rattle.text.specs.Hex.{more, hex_at}
use Rattle.text.proofs.hex.hex_at.Given as goal

abbrev pub invariant-loop-i : goal.invariant-loop-i
invariant-loop-i l = record {
  weight : l.weight ≡ 16 ^ (l.at + 16 - l.i);
  above : 0 < l.weight;
  below : l.m + l.weight ≤ 2 ^ 64;
  within : l.i ≤ length l.s;
  is : hex_at l.s l.at ≡ more l.s (l.at + 16 - l.i) l.i l.m;
}
