-- `canonical::writing::put_actuators` meets its contract: the texts that the calls put stand one after another. Assumes nothing.
use native.Mathlib.Omega.{arith}
use Rattle.text_writer.specs.PutLaws.{puts_join, puts_most}
use Rattle.canonical.specs.WritingLaws.{actuators_text}
use borrow.Author.Rules.{rules}
use Rattle.canonical.proofs.writing.put_actuators.Statement.{statement}
use Rattle.canonical.proofs.writing.put_actuators.Tie as tie

returns : tie.Need-returns
returns c =
    let last = c.before.before in
    let gyros = last.before.before.before.before.before in
    let thrusters = gyros.before.before.before.before in
    let wheels = thrusters.before.before.before.before in
    let begun = wheels.before.before.before.before in
    let start = begun.before.before.before.before.before.before in
    rw (actuators_text start.args.a)
    (puts_most (omega (arith, start.requires.1.0, start.requires.1.1))
    (puts_join
    (puts_join (puts_join (puts_join c.put_all-i.ensures wheels.put_wheels-j.ensures) thrusters.put_thrusters-k.ensures) gyros.put_gyros-l.ensures)
    last.put_all.ensures))

pub put_actuators_spec : {M : Type 1} → statement M
put_actuators_spec =
    tie.close
    (tie.spec (λ c κs. search rules) (λ c κs. search rules) (λ c κs. search rules) (λ c κs. search rules) (λ c κs. search rules) (λ c. search rules) returns)
