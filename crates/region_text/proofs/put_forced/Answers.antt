use Rattle.std.proofs.Common.{arith, to_z-of_z}
use Rattle.text_writer.specs.PutLaws.{puts_join, puts_most}
use Rattle.region_text.specs.RegionTexts.{forced}
use Rattle.region_text.proofs.put_forced.Goals as goal

pub returns : goal.returns
unfolding forced
returns c =
    let u = rw (to_z-of_z c.ranges.u) at c.put_choice-k.ensures in
    puts_most (omega arith) (puts_join (puts_join (puts_join c.put_counted-i.ensures c.put_all-j.ensures) u) c.put_all.ensures)
