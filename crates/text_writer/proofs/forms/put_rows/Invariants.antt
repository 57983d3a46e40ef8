-- The first rows are put.
use Rattle.text_writer.specs.PutLaws.{PutsFirst}
use Rattle.text_writer.specs.Texts.{row}
use Rattle.text_writer.proofs.forms.put_rows.Given as goal

abbrev pub invariant-loop-k : goal.invariant-loop-k
invariant-loop-k l = PutsFirst (row l.z l.c) 211 16 l.initial.b l.at l.k l.b l.i
