-- A walk that goes on from where an earlier time's ended ends where one from the first node does.
use Rattle.std.proofs.Common.{arith}
use Rattle.sample_lists.specs.StagesInner.{placed}
use Rattle.sample_lists.specs.WalkLaws.{passed_none, passed_later}
use Rattle.sample_lists.proofs.stages.place.Goals as goal
use Rattle.sample_lists.proofs.stages.place.Lts.{then-later, else-later}

pub walk-i-requires : goal.walk-i-requires
walk-i-requires c =
    let s = c.before.before in
    elim c.if-later.branch [
      | then-later w ↦ rw w.start-is (c.requires.2, passed_later c.args.nodes.now c.args.since c.time_of-t.result c.args.from s.well_formed.1.1.1.1.1.0.1 c.time_of-t.type_inv w.if-later.true c.requires.3)
      | else-later w ↦ rw w.start-is (omega arith, passed_none c.args.nodes.now c.time_of-t.result)
    ]

pub returns : goal.returns
unfolding placed
returns c =
    (rw (c.norm3-n.ensures, c.rotation-v.ensures, c.step_change.ensures, c.rate.ensures, c.time.ensures, c.walk-i.ensures.0, c.time_of-t.ensures), c.walk-i.ensures.1, c.walk-i.ensures.2)
