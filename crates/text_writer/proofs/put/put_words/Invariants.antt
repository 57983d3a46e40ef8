-- The first floats are put.
use Rattle.std.proofs.Common.{◌+◌}
use Rattle.common.specs.Lists as Lists
use Rattle.text_writer.specs.PutLaws.{PutsFirst}
use Rattle.text_writer.specs.Texts.{word}
use Rattle.text_writer.proofs.put.put_words.Given as goal

abbrev pub invariant-loop-x : goal.invariant-loop-x
invariant-loop-x l = PutsFirst (λ j. word (Lists.at l.v (l.from + j))) 17 l.n l.initial.b l.at l.x-index l.b l.i
