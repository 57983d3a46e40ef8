-- What is put goes on to the whole rest of the line.
use Rattle.std.proofs.Common.{◌≡◌, ◌*◌, ◌≤◌, length, drop}
use Rattle.refusal_text.specs.Sentences.{told}
use Rattle.refusal_text.specs.TableLaws.{GoesOn}
use Rattle.refusal_text.proofs.put_line.Given as goal

abbrev pub invariant-loop-k : goal.invariant-loop-k
invariant-loop-k l = record {
  low : l.at ≤ 20 * l.k;
  same : length l.out ≡ length l.initial.out;
  goes : GoesOn l.initial.out (told l.count (drop l.from l.t)) l.out l.at (told l.count (drop l.k l.t));
}
