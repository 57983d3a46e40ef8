use Rattle.std.proofs.Common.{arith, get_or-take}
use Rattle.std.proofs.lemmas.List.{length-take}
use Rattle.canonical.specs.Writing.{wheels_text}
use Rattle.text_writer.specs.PutLaws.{first_none, first_next, first_all}
use Rattle.canonical.proofs.writing.put_wheels.Goals as goal

pub loop-w-init : goal.loop-w-init
loop-w-init c = first_none

pub loop-w-preserved : goal.loop-w-preserved
loop-w-preserved c =
    let l = c.loop-w in
    first_next l.invariant (omega (arith, length-take c.args.n c.args.wheels)) (rw (get_or-take c.args.n c.args.wheels l.w-index _ (omega (arith, length-take c.args.n c.args.wheels))) at c.put_wheel-i.ensures) c.put_wheel-i.auto.b

pub returns : goal.returns
unfolding wheels_text
returns c = first_all c.loop-w.invariant (omega (arith, length-take c.args.n c.args.wheels))
