use Rattle.std.proofs.Common.{◌≡◌, arith, rules, get_or}
use lib.IntN.{pos}
use mir.Syntax.{w32}
use mir.Val.{to_z, of_z}
use Rattle.text_writer.specs.PutLaws.{first_none, first_next, first_all}
use Rattle.board_text.specs.BoardLines.{row}
use Rattle.board_text.proofs.put_row.Goals as goal

pub loop-n-init : goal.loop-n-init
loop-n-init c = first_none

pub loop-n-preserved : goal.loop-n-preserved
loop-n-preserved c =
    let l = c.loop-n in
    let e : to_z w32 (of_z w32 (get_or c.args.v.now l.n-index (pos 0))) ≡ get_or c.args.v.now l.n-index (pos 0) = search rules in
    first_next l.invariant (omega arith) (rw e at c.put_number-i.ensures) c.put_number-i.auto.b

pub returns : goal.returns
unfolding row
returns c = first_all c.loop-n.invariant (omega arith)
