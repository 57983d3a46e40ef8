use Rattle.std.proofs.Common.{arith, to_z-of_z}
use Rattle.region_text.specs.TextLaws.{prints_given}
use Rattle.region_text.proofs.write_start.Goals as goal

pub returns-in-Ok-Home : goal.returns-in-Ok-Home
returns-in-Ok-Home c =
    let e = rw (to_z-of_z c.ranges.angle, to_z-of_z c.ranges.rate, c.in-Ok-Home.field-0-is) at c.in-Ok-Home.ensures.value in
    rw (← e) (prints_given _ (omega arith) c.put_all-bytes.ensures)

pub returns-in-Ok-HeldOff : goal.returns-in-Ok-HeldOff
returns-in-Ok-HeldOff c =
    let e = rw (to_z-of_z c.ranges.angle, to_z-of_z c.ranges.rate, c.in-Ok-HeldOff.field-0-is) at c.in-Ok-HeldOff.ensures.value in
    rw (← e) (prints_given _ (omega arith) c.put_all-bytes-in-Ok-HeldOff.ensures)
