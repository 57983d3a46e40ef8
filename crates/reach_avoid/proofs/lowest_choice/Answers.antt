use Rattle.std.proofs.Common.{arith, eq-eqb}
use Rattle.reach_avoid.specs.LeastLaws.{least_found, least_none}
use Rattle.reach_avoid.specs.Room.{state_at}
use Rattle.reach_avoid.specs.TableLaws.{sure, none_of}
use Rattle.reach_avoid.proofs.lowest_choice.Goals as goal

pub returns-then-is_none : goal.returns-then-is_none
returns-then-is_none c =
    let a = c.args in
    let e = none_of _ c.lowest_reply.result c.if-is_none.ensures c.lowest_reply.ensures in (
      c.loop-i-test.true,
      least_found (sure a.t.now a.n (state_at a.k)) 5 c.loop-i.i c.loop-i-test.true c.loop-i.invariant (eq-eqb _ 3 e),
    )

pub returns : goal.returns
returns c =
    let a = c.args in
    least_none (sure a.t.now a.n (state_at a.k)) 5 (λ m h. c.loop-i.invariant m (omega arith))
