use Rattle.std.proofs.Common.{◌≡◌, arith, length, get_or}
use borrow.Author.Tests.{le-leb, lt-leb, eq-eqb, ne_eqb}
use Rattle.common.specs.IterLaws.{iter_none, iter_next}
use Rattle.mosaic_text.specs.MosaicTexts.{line_turn, line_of}
use Rattle.mosaic_text.specs.MosaicTextLaws.{line_low}
use Rattle.mosaic_text.proofs.line_of.Goals as goal
use Rattle.mosaic_text.proofs.line_of.Goals.{then-k-at+then-b-eq10, else-k-at, else-k-at-via-then-k-at+else-b-eq10, else-k-at-via-else-k-at}

pub loop-k-init : goal.loop-k-init
loop-k-init c = record { is = iter_none _ _; low = omega arith }

pub loop-k-preserved : goal.loop-k-preserved
unfolding line_turn
loop-k-preserved c =
    let l = c.loop-k in
    let turned : c.if-k-at.line ≡ line_turn l.line c.args.at l.k (get_or c.args.s.now l.k 0) =
    elim c.if-k-at.branch [
      | then-k-at+then-b-eq10 w ↦ rw w.line-is (simp (lt-leb _ _ w.if-k-at.true, eq-eqb _ _ w.if-b-eq10.true))
      | else-k-at w ↦ elim w.else-k-at.branch [
        | else-k-at-via-then-k-at+else-b-eq10 v ↦ rw w.line-is (simp (lt-leb _ _ v.if-k-at.true, ne_eqb _ _ v.if-b-eq10.false))
        | else-k-at-via-else-k-at v ↦ rw w.line-is (simp (le-leb _ _ v.if-k-at.false))
      ]
    ] in
    record { is = iter_next _ _ l.k l.invariant.is turned; low = rw turned (line_low l.line c.args.at l.k (get_or c.args.s.now l.k 0) l.k l.invariant.low) }

pub returns : goal.returns
unfolding line_of
returns c =
    let l = c.loop-k in
    let e : l.k ≡ length c.args.s.now = omega arith in
    rw e at l.invariant.is
