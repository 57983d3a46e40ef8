use Rattle.text_writer.specs.PutLaws.{puts_join}
use Rattle.text_writer.specs.Texts.{sample}
use Rattle.text_writer.proofs.write_sample.Goals as goal

pub returns : goal.returns
unfolding sample
returns c = puts_join (puts_join c.put_all-i.ensures (rw c.state_of-state.ensures at c.put_words-j.ensures)) c.put_all.ensures
