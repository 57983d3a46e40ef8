-- The bytes put so far and those left make the whole.
use Rattle.std.proofs.Common.{◌≡◌, ◌+◌, length, drop}
use Rattle.std.proofs.Math.Seq.{sets}
use Rattle.text_writer.proofs.put.put_all.Given as goal

abbrev pub invariant-loop-k : goal.invariant-loop-k
invariant-loop-k l = record { is : sets l.initial.b l.at l.w ≡ sets l.b (l.at + l.k) (drop l.k l.w); same : length l.b ≡ length l.initial.b }
