-- The turns of the first y rates are put.
use Rattle.text_writer.specs.PutLaws.{PutsFirst}
use Rattle.region_text.specs.RegionTexts.{turns_at_value}
use Rattle.region_text.proofs.put_rates.Given as goal

abbrev pub invariant-loop-y : goal.invariant-loop-y
invariant-loop-y l = PutsFirst (turns_at_value l.t l.x) 4 17 l.fn.b l.at l.y l.b l.i
