-- `order_text::reading::width_turn` meets its contract, by its cases. Assumes nothing.
use native.Mathlib.Omega.{arith}
use borrow.Author.Rules.{rules}
use borrow.Author.Tests.{not-true, not-false}
use Rattle.order_text.specs.TileTextLaws.{width_shut, width_close, width_blank, width_other}
use Rattle.order_text.proofs.reading.width_turn.Statement.{statement}
use Rattle.order_text.proofs.reading.width_turn.Tie as tie

returns : tie.Need-returns-then-not-c
returns c = (width_shut _ _ _ (not-true _ c.if-not-c.true), omega arith)

returns_2 : tie.Need-returns-then-b-eq41
returns_2 c = let b = c.before in (width_close _ _ _ (not-false _ b.if-not-c.false) b.byte-b.ensures c.if-b-eq41.true, omega arith)

returns_3 : tie.Need-returns-then-b-eq32
returns_3 c =
    let t = c.before in
    let o = t.before in
    let b = o.before in
    (width_blank _ _ _ (not-false _ b.if-not-c.false) b.byte-b.ensures o.if-b-eq41.false t.if-b-eq32.true, omega arith)

returns-4 : tie.Need-returns
returns-4 c =
    let o = c.before in
    let b = o.before in
    (width_other _ _ _ (not-false _ b.if-not-c.false) b.byte-b.ensures o.if-b-eq41.false c.if-b-eq32.false, omega arith)

pub width_turn_spec : {M : Type 1} → statement M
width_turn_spec = tie.close (tie.spec returns (search rules) returns_2 (search rules) returns_3 returns-4)
