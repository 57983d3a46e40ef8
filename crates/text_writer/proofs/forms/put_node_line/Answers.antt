use Rattle.std.proofs.Common.{arith}
use Rattle.text_writer.specs.PutLaws.{puts_join, puts_most}
use Rattle.text_writer.specs.Texts.{node_line}
use Rattle.text_writer.proofs.forms.put_node_line.Goals as goal

pub returns : goal.returns
unfolding node_line
returns c = puts_most (omega arith) (puts_join (puts_join (puts_join c.put_all-i.ensures c.put_words-j.ensures) c.put_words-k.ensures) c.put_all.ensures)
