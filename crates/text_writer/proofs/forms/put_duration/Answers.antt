use Rattle.text_writer.specs.PutLaws.{puts_join}
use Rattle.text_writer.specs.Texts.{duration}
use Rattle.text_writer.proofs.forms.put_duration.Goals as goal

pub returns : goal.returns
unfolding duration
returns c = puts_join (puts_join c.put_all-i.ensures c.put_word-j.ensures) c.put_all.ensures
