use Rattle.std.proofs.Common.{arith}
use Rattle.text_writer.specs.PutLaws.{puts_join, puts_most}
use Rattle.region_text.specs.RegionTexts.{region_text}
use Rattle.region_text.proofs.write_region.Goals as goal

pub returns : goal.returns
unfolding region_text
returns c =
    rw (← c.region-t.ensures) (puts_most (omega arith) (puts_join (puts_join c.put_all-i.ensures c.put_angles-j.ensures) c.put_all.ensures))
