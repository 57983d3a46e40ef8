-- The walk stops where node i + 1 is not before t.
use Rattle.std.proofs.Common.{◌≡◌, refl, arith}
use Rattle.common.specs.IterLaws.{iter_none}
use Rattle.samples.specs.SampleLaws.{walks, stops}
use Rattle.samples.proofs.nodes.earlier.Goals as goal

pub loop-i-init : goal.loop-i-init
loop-i-init c = iter_none _ _

pub returns-then-not-time-t : goal.returns-then-not-time-t
returns-then-not-time-t c = (stops _ _ _ c.loop-i.invariant c.time.ensures c.if-not-time-t.true (omega arith), omega arith)

pub loop-i-preserved : goal.loop-i-preserved
loop-i-preserved c = walks c.args.nodes.now _ _ c.loop-i.invariant c.time.ensures c.if-not-time-t.false

pub returns : goal.returns
returns c =
    let l = c.loop-i in
    let e : l.i ≡ 15 = omega arith in
    (rw e at (stops _ _ l.i l.invariant (rw e refl) c.requires (omega arith)), omega arith)
