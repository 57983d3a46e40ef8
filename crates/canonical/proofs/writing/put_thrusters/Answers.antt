use Rattle.std.proofs.Common.{arith, get_or-take}
use Rattle.std.proofs.lemmas.List.{length-take}
use Rattle.canonical.specs.Writing.{thrusters_text}
use Rattle.text_writer.specs.PutLaws.{first_none, first_next, first_all}
use Rattle.canonical.proofs.writing.put_thrusters.Goals as goal

pub loop-t-init : goal.loop-t-init
loop-t-init c = first_none

pub loop-t-preserved : goal.loop-t-preserved
loop-t-preserved c =
    let l = c.loop-t in
    first_next l.invariant (omega (arith, length-take c.args.n c.args.thrusters)) (rw (get_or-take c.args.n c.args.thrusters l.t-index _ (omega (arith, length-take c.args.n c.args.thrusters))) at c.put_thruster-i.ensures) c.put_thruster-i.auto.b

pub returns : goal.returns
unfolding thrusters_text
returns c = first_all c.loop-t.invariant (omega (arith, length-take c.args.n c.args.thrusters))
