-- `canonical::writing::write_problem` meets its contract: a problem that no text holds puts nothing; else its parts stand one after another and make up the text. Assumes nothing.
use native.Mathlib.Omega.{arith}
use mathlib.Core.Path.{◌∙◌}
use Rattle.text_writer.specs.PutLaws.{puts_none, puts_join, puts_most}
use Rattle.canonical.specs.WritingLaws.{written_is, print_parts, written_wheels, written_thrusters, written_momenta}
use borrow.Author.Rules.{rules}
use Rattle.canonical.proofs.writing.write_problem.Statement.{statement}
use Rattle.canonical.proofs.writing.write_problem.Tie as tie

abbrev start : tie.After-struct_known-1 → tie.Start
start c = c.before.before.before

returns : tie.Need-returns-then-actuators-gt8
returns c = rw (written_wheels (start c.before).args.p (omega arith)) (puts_none _ _ _)

returns_2 : tie.Need-returns-then-actuators-gt12
returns_2 c = rw (written_thrusters (start c.before.before.before).args.p (omega arith) (omega arith)) (puts_none _ _ _)

returns_3 : tie.Need-returns-then-momenta-actuators
returns_3 c =
    let few = c.before.before.before.before in
    rw (written_momenta (start few.before.before.before).args.p (omega arith) (omega arith) c.if-momenta-actuators.true) (puts_none _ _ _)

returns-4 : tie.Need-returns
returns-4 c =
    let actuators = c.before.before in
    let momenta = actuators.before.before.before.before in
    let fields = momenta.before.before.before.before.before in
    let same = fields.before.before in
    let few = same.before.before.before.before in
    let p = (start few.before.before.before).args.p in
    rw (written_is p ((omega arith, omega arith), same.if-momenta-actuators.false) ∙ print_parts p)
    (puts_most (omega arith) (puts_join (puts_join fields.put_fields-i.ensures momenta.put_momenta-j.ensures) actuators.put_actuators.ensures))

pub write_problem_spec : {M : Type 1} → statement M
write_problem_spec = tie.close (tie.spec returns returns_2 returns_3 (search rules) (search rules) (search rules) (search rules) returns-4)
