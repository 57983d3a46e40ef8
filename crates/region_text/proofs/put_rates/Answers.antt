use Rattle.text_writer.specs.PutLaws.{first_none, first_next}
use Rattle.region_text.proofs.put_rates.Goals as goal

pub loop-y-init : goal.loop-y-init
loop-y-init c = first_none

pub loop-y-preserved : goal.loop-y-preserved
loop-y-preserved c = first_next c.loop-y.invariant c.loop-y-test.true c.put_turns-i.ensures c.put_turns-i.auto.b
