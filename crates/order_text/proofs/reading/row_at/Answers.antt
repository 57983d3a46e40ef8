use Rattle.std.proofs.Common.{◌≡◌, ◌+◌, sym, ◌∙◌, arith, Some}
use Rattle.common.specs.IterLaws.{iter_none, iter_next, iter_stays}
use Rattle.order_text.specs.TileTexts.{row_turn, row_at}
use Rattle.order_text.specs.TileTextLaws.{row_shut}
use Rattle.order_text.proofs.reading.row_at.Goals as goal

pub loop-k-init : goal.loop-k-init
loop-k-init c = record { so_far = iter_none _ _; within = c.requires.0 }

pub loop-k-preserved : goal.loop-k-preserved
loop-k-preserved c =
    record {
      so_far = iter_next _ _ c.loop-k.k c.loop-k.invariant.so_far (sym c.in_ok-c.was ∙ c.next_word.ensures.is);
      within = c.in_ok-c.ensures.within;
    }

pub returns-in_err-c : goal.returns-in_err-c
unfolding row_at
returns-in_err-c c =
    let a = c.args in
    let k = c.loop-k.k in
    let e = iter_next (λ i d. row_turn a.s.now (a.base + i) d) (Some (record { at = a.at; times = a.times })) k c.loop-k.invariant.so_far (sym c.in_err-c.was ∙ c.next_word.ensures.is) in
    rw c.from_residual.ensures (record { is = iter_stays _ _ (k + 1) a.n (omega arith) e (λ j. sym (row_shut a.s.now (a.base + j))); within = tt })

pub returns : goal.returns
unfolding row_at
returns c =
    let e : c.loop-k.k ≡ c.args.n = omega arith in
    record { is = rw e at c.loop-k.invariant.so_far; within = c.loop-k.invariant.within }
