use Rattle.std.proofs.Common.{arith, to_z-of_z}
use Rattle.region_text.specs.TextLaws.{prints_given}
use Rattle.region_text.proofs.write_reply.Goals as goal

pub returns-in-Ok-None : goal.returns-in-Ok-None
returns-in-Ok-None c =
    let e = rw (to_z-of_z c.ranges.angle, to_z-of_z c.ranges.rate, to_z-of_z c.ranges.choice, c.in-Ok-None.field-0-is) at c.in-Ok-None.ensures.value in
    rw (← e) (prints_given _ (omega arith) c.put_all-bytes.ensures)
