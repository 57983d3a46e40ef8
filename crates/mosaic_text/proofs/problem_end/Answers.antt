use Rattle.std.proofs.Common.{sym, ◌∙◌, arith, ◌≡◌, length}
use Rattle.mosaic_text.specs.MosaicTextLaws.{end_closed, end_tile, end_next, end_here}
use Rattle.mosaic_text.proofs.problem_end.Goals as goal

pub returns-then-is_at : goal.returns-then-is_at
returns-then-is_at c =
    let w = c.is_at.ensures.within c.if-is_at.true in
    record { is = sym (c.loop-i.invariant ∙ end_closed _ _ _ (omega arith) (sym c.is_at.ensures.is ∙ c.if-is_at.true)); after = omega arith; within = w }

pub returns-then-is_at-2 : goal.returns-then-is_at-2
returns-then-is_at-2 c =
    let w = c.is_at-in-loop-i.ensures.within c.if-is_at-2.true in
    record { is = sym (c.loop-i.invariant ∙ end_tile _ _ _ (omega arith) (sym c.is_at.ensures.is ∙ c.if-is_at.false) (sym c.is_at-in-loop-i.ensures.is ∙ c.if-is_at-2.true)); after = omega arith; within = omega (arith, w) }

pub loop-i-preserved : goal.loop-i-preserved
loop-i-preserved c = c.loop-i.invariant ∙ end_next _ _ _ (omega arith) (sym c.is_at.ensures.is ∙ c.if-is_at.false) (sym c.is_at-in-loop-i.ensures.is ∙ c.if-is_at-2.false)

pub returns : goal.returns
returns c =
    let l = c.loop-i in
    let end : length c.args.s.now ≡ l.i = omega arith in
    record { is = end ∙ sym (l.invariant ∙ end_here _ _ _ (omega arith)); after = omega arith; within = omega arith }
