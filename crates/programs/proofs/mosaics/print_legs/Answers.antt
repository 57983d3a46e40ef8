-- `mosaics::print_legs` meets its contract: leg after leg, by the laws of the cursor. Assumes nothing.
use Rattle.std.proofs.Common.{◌≡◌, ◌+◌, ◌-◌, arith, sym, ◌∙◌}
use Rattle.mosaic_answer.specs.MosaicAnswerLaws.{cursor_first, cursor_next, cursor_stays}
use Rattle.programs.proofs.mosaics.print_legs.Goals as goal

pub loop-init : goal.loop-init
loop-init c = (omega arith, c.start-c.ensures ∙ cursor_first _ _)

pub returns-then-is_refused : goal.returns-then-is_refused
returns-then-is_refused c =
    let l = c.loop in
    cursor_stays _ _ (l.counter - 1 + 1) _ (omega arith) (cursor_next _ _ (l.counter - 1) l.invariant.1 c.in_ok-c.ensures) (sym c.is_refused.ensures ∙ c.if-is_refused.true)

pub loop-preserved : goal.loop-preserved
loop-preserved c =
    let l = c.loop in
    let e : l.counter + 1 - 1 ≡ l.counter - 1 + 1 = omega arith in
    (omega arith, rw e (cursor_next _ _ (l.counter - 1) l.invariant.1 c.in_ok-c.ensures))

pub returns : goal.returns
returns c =
    let l = c.loop in
    let e : l.counter - 1 ≡ c.args.m.count - 1 = omega (arith, l.invariant.0) in
    rw e at l.invariant.1
