use Rattle.std.proofs.Common.{◌≡◌, ◌+◌, ◌≤◌, refl, ◌∙◌, length, arith}
use Rattle.common.specs.IterLaws.{iter_none, iter_next}
use Rattle.eigenaxis.specs.LadderLaws.{keeps_same, keeps_then, climb_any}
use Rattle.eigenaxis.specs.Bounds.{climb_turn_most}
use Rattle.eigenaxis.proofs.climb.Goals as goal

pub loop-init : goal.loop-init
loop-init c = record { same = iter_none _ _; runs = omega arith; keeps = keeps_same _ _ refl }

pub loop-preserved : goal.loop-preserved
loop-preserved c =
    let l = c.loop in
    let i = l.invariant in
    let t = c.climb_turn-s in
    let long : length l.ws ≡ length c.args.ws.now = c.loop.auto.ws in
    let h : t.result.runs ≤ l.s.runs + 7802 = rw t.ensures.0 (climb_turn_most _ _ _ 0 _) in record {
      same = iter_next _ _ _ i.same ((rw long at t.ensures.0) ∙ climb_any _ _ _ _ _);
      runs = omega (arith, h, i.runs);
      keeps = keeps_then i.keeps t.ensures.1;
    }

pub returns : goal.returns
returns c =
    let i = c.loop.invariant in
    let e : c.loop.counter ≡ 20 = omega arith in
    (rw (← e) i.same, i.keeps)
