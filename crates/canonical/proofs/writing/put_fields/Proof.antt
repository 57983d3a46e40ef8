-- `canonical::writing::put_fields` meets its contract: the texts that the calls put stand one after another. Assumes nothing.
use mathlib.Core.List.{◌++◌}
use native.Mathlib.Omega.{arith}
use Rattle.text_writer.specs.PutLaws.{puts_most}
use Rattle.canonical.specs.Writing.{attitudes, body, weights_line, tolerances_line, fields}
use Rattle.canonical.specs.WritingLaws.{puts_pieces}
use borrow.Author.Rules.{rules}
use Rattle.canonical.proofs.writing.put_fields.Statement.{statement}
use Rattle.canonical.proofs.writing.put_fields.Tie as tie

returns : tie.Need-returns
unfolding fields
returns c =
    let last = c.before.before in
    let weighed = last.before.before.before.before in
    let limited = weighed.before.before.before.before in
    let turned = limited.before.before.before.before in
    let p = turned.args.p in
    let turn = attitudes p.q0 p.qf in
    let limits = body p.inertia p.torque_limit p.slew in
    let costs = weights_line p.weights in
    let tolerances = tolerances_line p.norm_tolerance p.tie_tolerance in
    puts_most (omega arith)
    (puts_pieces (turn ++ limits ++ costs) tolerances
    (puts_pieces (turn ++ limits) costs (puts_pieces turn limits turned.put_attitudes-i.ensures limited.put_body-j.ensures) weighed.put_weights-k.ensures)
    last.put_tolerances.ensures)

pub put_fields_spec : {M : Type 1} → statement M
put_fields_spec = tie.close (tie.spec (search rules) (search rules) (search rules) (search rules) (search rules) returns)
