use Rattle.text_writer.specs.PutLaws.{first_none, first_next}
use Rattle.region_text.proofs.put_angles.Goals as goal

pub loop-x-init : goal.loop-x-init
loop-x-init c = first_none

pub loop-x-preserved : goal.loop-x-preserved
loop-x-preserved c = first_next c.loop-x.invariant c.loop-x-test.true c.put_angle-i.ensures c.put_angle-i.auto.b
