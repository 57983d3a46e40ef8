-- The digits put so far and the text of the rest, which is below the weight, make the whole.
use Rattle.std.proofs.Common.{◌≡◌, ◌+◌, ◌-◌, ◌≤◌, ◌<◌, ◌^◌, length}
use Rattle.std.proofs.Math.Seq.{sets}
use Rattle.text_writer.proofs.Writing.{hex_rest}
use Rattle.text_writer.proofs.put.put_hex.Given as goal

abbrev pub invariant-loop-rest : goal.invariant-loop-rest
invariant-loop-rest l = record {
  from : l.at + 1 ≤ l.i;
  weight : l.weight ≡ 16 ^ (l.at + 16 - l.i);
  above : 0 < l.weight;
  below : l.rest < l.weight;
  is : sets l.initial.b l.initial.i (hex_rest 15 l.initial.rest) ≡ sets l.b l.i (hex_rest (l.at + 16 - l.i) l.rest);
  ends : l.initial.i + length (hex_rest 15 l.initial.rest) ≡ l.i + length (hex_rest (l.at + 16 - l.i) l.rest);
  same : length l.b ≡ length l.initial.b;
}

abbrev pub decreases-loop-rest : goal.decreases-loop-rest
decreases-loop-rest l = l.weight
