-- `read::word_at`: after k turns the word is the definition's after k.
use Rattle.std.proofs.Common.{◌≡◌, true}
use Rattle.common.specs.Iter.{iter}
use Rattle.cases.specs.Words.{taken}
use Rattle.cases.proofs.read.word_at.Given as goal

abbrev pub invariant-loop : goal.invariant-loop
invariant-loop l = l.w ≡ iter (λ j. taken l.s) (record { value = 0; next = l.at; going = true }) l.counter
