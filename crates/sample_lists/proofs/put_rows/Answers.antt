-- What is finished in turn j was turned in the turn before and placed in the one before that.
use Rattle.std.proofs.Common.{◌≡◌, ◌+◌, ◌-◌, arith}
use Rattle.sample_lists.specs.StageLaws.{turning_node}
use Rattle.sample_lists.specs.WalkLaws.{passed_none}
use Rattle.sample_lists.proofs.Listing.{goes_first, goes_next, goes_cut, goes_whole}
use Rattle.sample_lists.proofs.Pipeline.{place_next, turn_next, finish_is}
use Rattle.sample_lists.proofs.put_rows.Goals as goal
use Rattle.sample_lists.proofs.put_rows.Lts.{then-j-ge2+in-Ok, else-j-ge2}

pub loop-j-init : goal.loop-j-init
loop-j-init c =
    let e = c.unplaced-placed.ensures in
    (rw e (omega arith), rw e (passed_none c.args.nodes.now c.unplaced-placed.result.t), rw c.unturned-turning.ensures (omega arith), (λ a b. absurd (omega (arith, a))), (λ a b. absurd (omega (arith, a))), goes_first _ _)

pub returns-in-Err : goal.returns-in-Err
returns-in-Err c =
    let l = c.loop-j in
    goes_cut _ l.invariant.5 (finish_is _ _ _ _ _ _ _ c.step_rows-steps.ensures l.invariant.4 c.if-j-ge2.true (omega arith) c.finish.ensures) (omega arith) c.in-Err.is

pub loop-j-preserved : goal.loop-j-preserved
loop-j-preserved c =
    let l = c.loop-j in (
      c.place-next.ensures.1,
      c.place-next.ensures.2,
      rw (c.turn-turned.ensures, turning_node l.placed) l.invariant.0,
      place_next _ _ _ _ l.j c.place-next.ensures.0 c.held_index.ensures.1,
      turn_next _ _ _ _ l.j l.invariant.3 c.turn-turned.ensures,
      elim c.if-j-ge2.branch [
        | then-j-ge2+in-Ok w ↦
            let e : l.j - 2 + 1 ≡ l.j + 1 - 2 = omega (arith, w.if-j-ge2.true) in
            let is = finish_is _ _ _ _ _ _ _ c.step_rows-steps.ensures l.invariant.4 w.if-j-ge2.true (omega arith) w.finish.ensures in
            rw (w.out-is, ← e) (goes_next _ l.invariant.5 is (omega (arith, c.requires, w.if-j-ge2.true)) w.in-Ok.is w.numbers.ensures)
        | else-j-ge2 w ↦ let e : l.j - 2 ≡ l.j + 1 - 2 = omega (arith, w.if-j-ge2.false) in rw (w.out-is, ← e) l.invariant.5
      ],
    )

pub returns : goal.returns
returns c =
    let l = c.loop-j in
    let e : l.j - 2 ≡ c.args.count = omega arith in
    rw e at (goes_whole _ l.invariant.5)
