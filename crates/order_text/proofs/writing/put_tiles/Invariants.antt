-- The first k tiles are put.
use Rattle.std.proofs.Common.{get_or}
use Rattle.text_writer.specs.PutLaws.{PutsFirst}
use Rattle.order_text.specs.OrderTexts.{tile}
use Rattle.order_text.proofs.writing.put_tiles.Given as goal

abbrev pub invariant-loop-k : goal.invariant-loop-k
invariant-loop-k l = PutsFirst (λ j. tile (get_or l.order j 0)) 21 l.n l.fn.b l.at l.k l.b l.i
