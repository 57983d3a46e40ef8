use borrow.Author.Tests.{le-leb, lt-leb}
use Rattle.text_writer.specs.PutLaws.{puts_none, puts_join}
use Rattle.text_writer.specs.Texts.{path, path_text}
use Rattle.text_writer.proofs.write_path.Goals as goal

pub returns-then-controls-gt12 : goal.returns-then-controls-gt12
unfolding path
returns-then-controls-gt12 c = simp (lt-leb _ _ c.if-controls-gt12.true) (puts_none _ _ _)

pub returns-then-wheels-gt8 : goal.returns-then-wheels-gt8
unfolding path
returns-then-wheels-gt8 c = simp (le-leb _ _ c.if-controls-gt12.false, lt-leb _ _ c.if-wheels-gt8.true) (puts_none _ _ _)

pub returns : goal.returns
unfolding path path_text
returns c = simp (le-leb _ _ c.if-controls-gt12.false, le-leb _ _ c.if-wheels-gt8.false) (puts_join (puts_join (puts_join c.put_heading-i.ensures c.put_rows-j.ensures) c.put_nodes-k.ensures) c.put_all.ensures)
