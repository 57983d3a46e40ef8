use Rattle.std.proofs.Common.{arith}
use Rattle.text_writer.specs.PutLaws.{puts_join, puts_most}
use Rattle.region_text.specs.RegionTexts.{angle_line}
use Rattle.region_text.proofs.put_angle.Goals as goal

pub returns : goal.returns
unfolding angle_line
returns c =
    puts_most (omega arith) (puts_join (puts_join (puts_join c.put_all-i.ensures c.put_less-j.ensures) c.put_rates-k.ensures) c.put_all.ensures)
