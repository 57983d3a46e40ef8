use Rattle.std.proofs.Common.{arith}
use Rattle.text_writer.specs.PutLaws.{first_none, first_next, first_all}
use Rattle.text_writer.specs.Texts.{rows}
use Rattle.text_writer.proofs.forms.put_rows.Goals as goal

pub loop-k-init : goal.loop-k-init
loop-k-init c = first_none

pub loop-k-preserved : goal.loop-k-preserved
loop-k-preserved c = first_next c.loop-k.invariant (omega arith) c.put_row-i.ensures c.put_row-i.auto.b

pub returns : goal.returns
unfolding rows
returns c = first_all c.loop-k.invariant (omega arith)
