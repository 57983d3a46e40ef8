use Rattle.std.proofs.Common.{arith, to_z-of_z}
use Rattle.text_writer.specs.PutLaws.{puts_join, puts_most}
use Rattle.region_text.specs.RegionTexts.{adds}
use Rattle.region_text.proofs.put_with.Goals as goal

pub returns : goal.returns
unfolding adds
returns c =
    let d = rw (to_z-of_z c.ranges.d) at c.put_choice-j.ensures in
    puts_most (omega arith) (puts_join (puts_join c.put_all-i.ensures d) c.put_all.ensures)
