use Rattle.std.proofs.Common.{arith}
use Rattle.text_writer.specs.PutLaws.{first_none, first_next, first_all}
use Rattle.text_writer.specs.Texts.{words}
use Rattle.text_writer.proofs.Writing.{part_at}
use Rattle.text_writer.proofs.put.put_words.Goals as goal

pub loop-x-init : goal.loop-x-init
loop-x-init c = first_none

pub loop-x-preserved : goal.loop-x-preserved
loop-x-preserved c =
    let k = c.loop-x.x-index in
    first_next c.loop-x.invariant (omega arith) (rw (part_at c.args.v.now c.args.from c.args.n k _ (omega arith)) at c.put_word-i.ensures) c.put_word-i.auto.b

pub returns : goal.returns
unfolding words
returns c = first_all c.loop-x.invariant (omega arith)
