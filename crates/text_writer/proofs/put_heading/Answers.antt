use Rattle.text_writer.specs.PutLaws.{puts_join}
use Rattle.text_writer.specs.Texts.{heading}
use Rattle.text_writer.proofs.put_heading.Goals as goal

pub returns : goal.returns
unfolding heading
returns c = puts_join (puts_join (puts_join c.put_all-i.ensures c.put_counted-j.ensures) c.put_counted-k.ensures) c.put_duration.ensures
