use Rattle.std.proofs.Common.{refl, sym, ◌∙◌, arith}
use Rattle.common.specs.IterLaws.{iter_none, iter_next}
use Rattle.mosaic_text.specs.MosaicTextLaws.{tiles_low, tiles_early, tiles_whole}
use Rattle.mosaic_text.proofs.tiles.tiles_at.Goals as goal

pub loop-k-init : goal.loop-k-init
loop-k-init c = record { is = rw c.no_tile.ensures (iter_none _ _); low = omega arith }

pub returns-in-Closed : goal.returns-in-Closed
returns-in-Closed c =
    let l = c.loop-k in
    tiles_early _ _ _ _ (iter_next _ _ l.k l.invariant.is (sym c.in-Closed.is ∙ c.next_line.ensures)) (omega arith) (λ j. refl)

pub returns-in-Wrong : goal.returns-in-Wrong
returns-in-Wrong c =
    let l = c.loop-k in
    tiles_early _ _ _ _ (iter_next _ _ l.k l.invariant.is (sym c.in-Wrong.is ∙ c.next_line.ensures)) (omega arith) (λ j. refl)

pub loop-k-preserved : goal.loop-k-preserved
loop-k-preserved c =
    let l = c.loop-k in
    record {
      is = iter_next _ _ l.k l.invariant.is (sym c.in-More.is ∙ c.next_line.ensures);
      low = tiles_low _ _ _ l.k _ _ l.invariant.low (sym c.next_line.ensures ∙ c.in-More.is);
    }

pub returns : goal.returns
returns c = tiles_whole _ _ _ c.loop-k.k c.loop-k.invariant.is (omega arith)
