use Rattle.std.proofs.Common.{arith}
use Rattle.text_writer.specs.PutLaws.{puts_join, puts_most}
use Rattle.text_writer.specs.Texts.{row}
use Rattle.text_writer.proofs.forms.put_row.Goals as goal

pub returns : goal.returns
unfolding row
returns c = puts_most (omega arith) (puts_join (puts_join c.put_all-i.ensures c.put_words-j.ensures) c.put_all.ensures)
