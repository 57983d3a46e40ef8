use Rattle.std.proofs.Common.{ap, ◌∙◌, arith, below_more, lt-ltb, le-ltb}
use Rattle.std.specs.Prelude.{not}
use Rattle.reach_avoid.specs.LeastLaws.{least_found, least_none}
use Rattle.reach_avoid.specs.Room.{state_at}
use Rattle.reach_avoid.specs.TableLaws.{serves, serves_by}
use Rattle.reach_avoid.proofs.lowest_reply.Goals as goal

pub returns-then-n-after : goal.returns-then-n-after
returns-then-n-after c =
    let a = c.args in
    let j = c.loop-j.j in (
      c.loop-j-test.true,
      least_found (serves a.t.now a.n (state_at a.k) a.i) 3 j c.loop-j-test.true c.loop-j.invariant
          (serves_by a.t.now a.n (state_at a.k) a.i j (omega arith) c.after.ensures ∙ ap not (le-ltb c.after.result a.n c.if-n-after.true)),
    )

pub loop-j-preserved : goal.loop-j-preserved
loop-j-preserved c =
    let a = c.args in
    below_more _ _ c.loop-j.invariant
    (serves_by a.t.now a.n (state_at a.k) a.i c.loop-j.j (omega arith) c.after.ensures ∙ ap not (lt-ltb c.after.result a.n c.if-n-after.false))

pub returns : goal.returns
returns c =
    let a = c.args in
    least_none (serves a.t.now a.n (state_at a.k) a.i) 3 (λ m h. c.loop-j.invariant m (omega arith))
