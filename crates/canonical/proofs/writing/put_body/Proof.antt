-- `canonical::writing::put_body` meets its contract: the texts that the calls put stand one after another. Assumes nothing.
use mathlib.Core.List.{◌++◌}
use native.Mathlib.Omega.{arith}
use Rattle.text_writer.specs.PutLaws.{puts_most}
use Rattle.canonical.specs.Writing.{inertia_line, torques_line, slew_line}
use Rattle.canonical.specs.WritingLaws.{puts_pieces}
use borrow.Author.Rules.{rules}
use Rattle.canonical.proofs.writing.put_body.Statement.{statement}
use Rattle.canonical.proofs.writing.put_body.Tie as tie

returns : tie.Need-returns
returns c =
    let last = c.before.before in
    let torques = last.before.before.before.before in
    let first = torques.before.before.before.before in
    let args = first.args in
    let j = inertia_line args.inertia in
    let l = torques_line args.limit in
    puts_most (omega arith) (puts_pieces (j ++ l) (slew_line args.slew) (puts_pieces j l first.put_inertia-i.ensures torques.put_torques-j.ensures) last.put_slew.ensures)

pub put_body_spec : {M : Type 1} → statement M
put_body_spec = tie.close (tie.spec (search rules) (search rules) (search rules) (search rules) returns)
