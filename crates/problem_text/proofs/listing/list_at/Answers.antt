use Rattle.std.proofs.Common.{arith}
use borrow.Author.Tests.{lt-ltb, not-true, not-false}
use Rattle.common.specs.IterLaws.{iter_none, iter_next}
use Rattle.problem_text.specs.Listing.{list_at_value}
use Rattle.problem_text.proofs.Lists.{counts_first, counts_next, turn_goes, list_early, list_whole}
use Rattle.problem_text.proofs.listing.list_at.Goals as goal

pub returns-then-s-gt4096 : goal.returns-then-s-gt4096
unfolding list_at_value
returns-then-s-gt4096 c = simp (lt-ltb _ _ c.if-s-gt4096.true) (rw c.no_actuators.ensures at c.wrong_line.ensures)

pub loop-k-init : goal.loop-k-init
loop-k-init c = record { is = iter_none _ _; counts = rw c.first_line-c.ensures (counts_first _ _) }

pub returns-then-not-c : goal.returns-then-not-c
returns-then-not-c c =
    let l = c.loop-k in
    list_early _ _ _ l.c l.k c.first_line-c.ensures l.invariant.is c.if-s-gt4096.false (omega arith) (not-true _ c.if-not-c.true)

pub loop-k-preserved : goal.loop-k-preserved
loop-k-preserved c =
    let l = c.loop-k in
    record {
      is = iter_next _ _ _ l.invariant.is (turn_goes _ l.k _ _ (not-false _ c.if-not-c.false) c.next_line-c.ensures);
      counts = rw c.next_line-c.ensures (counts_next _ _ _ l.invariant.counts);
    }

pub returns : goal.returns
returns c =
    let l = c.loop-k in
    list_whole _ _ _ l.c l.k c.first_line-c.ensures l.invariant.is c.if-s-gt4096.false (omega arith)
