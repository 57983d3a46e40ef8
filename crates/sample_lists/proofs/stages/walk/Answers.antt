-- Where the walk stops, all nodes before have been passed.
use Rattle.std.proofs.Common.{◌≡◌, arith}
use Rattle.sample_lists.specs.WalkLaws.{passed_next, walk_stops, walk_ends}
use Rattle.sample_lists.proofs.stages.walk.Goals as goal

pub loop-i-init : goal.loop-i-init
loop-i-init c = c.requires.1

pub returns-then-not-time-t : goal.returns-then-not-time-t
returns-then-not-time-t c = let l = c.loop-i in (walk_stops _ _ _ l.invariant c.time.ensures c.if-not-time-t.true (omega arith), omega arith, l.invariant)

pub loop-i-preserved : goal.loop-i-preserved
loop-i-preserved c = passed_next c.args.nodes.now _ _ c.loop-i.invariant c.time.ensures c.time.type_inv c.if-not-time-t.false

pub returns : goal.returns
returns c =
    let l = c.loop-i in
    let e : l.i ≡ 15 = omega (arith, c.requires) in
    (rw e at (walk_ends _ _ _ l.invariant e), omega arith, rw e at l.invariant)
