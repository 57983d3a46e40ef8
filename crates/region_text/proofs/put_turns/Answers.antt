use Rattle.text_writer.specs.PutLaws.{puts_join}
use Rattle.region_text.specs.RegionTexts.{turns}
use Rattle.region_text.proofs.put_turns.Goals as goal

pub returns : goal.returns
unfolding turns
returns c = puts_join c.put_byte-i.ensures c.put_digits.ensures
