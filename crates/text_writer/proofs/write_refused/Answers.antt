use Rattle.text_writer.specs.PutLaws.{puts_join}
use Rattle.text_writer.specs.Texts.{refused}
use Rattle.text_writer.proofs.write_refused.Goals as goal

pub returns : goal.returns
unfolding refused
returns c = puts_join (puts_join (puts_join (puts_join c.put_all-i.ensures c.put_counted-j.ensures) c.put_counted-k.ensures) c.put_counted-l.ensures) c.put_all.ensures
