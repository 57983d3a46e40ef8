-- The last line for the refusal up to here, which is `iter` of the definition's turn.
use Rattle.std.proofs.Common.{◌≡◌, ◌≤◌}
use Rattle.common.specs.Iter.{iter}
use Rattle.refusal_text.specs.Sentences.{later}
use Rattle.refusal_text.proofs.line_for.Given as goal

abbrev pub invariant-loop-k : goal.invariant-loop-k
invariant-loop-k l = record { low : l.found ≤ l.k; is : l.found ≡ iter (later l.t l.n l.place l.when) 0 l.k }
