-- `order_text::reading::digit_turn` meets its contract, by its cases. Assumes nothing.
use mathlib.Core.Path.{◌≡◌, ◌∙◌}
use lib.ListN.{get_or}
use borrow.Author.Rules.{rules}
use borrow.Author.Tests.{not-true, not-false}
use Rattle.text.specs.Hex.{digit}
use Rattle.order_text.specs.TileTextLaws.{digit_shut, digit_none, digit_capped, digit_more}
use Rattle.order_text.proofs.reading.digit_turn.Statement.{statement}
use Rattle.order_text.proofs.reading.digit_turn.Tie as tie

read : (c : tie.After-hex_digit-d) → let a = c.args in c.hex_digit-d.result ≡ digit (get_or a.s.now a.c.at 0)
read c = rw c.byte.ensures at c.hex_digit-d.ensures

returns : tie.Need-returns-then-not-c
returns c = let b = c.before.before.before in digit_shut b.args.s.now b.args.c b.requires.0 b.requires.1 (not-true _ c.if-not-c.true)

returns_2 : tie.Need-returns-then-d-ge10
returns_2 c =
    let h = c.before in
    let e = h.before.before in
    let b = e.before.before.before in
    digit_none b.args.s.now b.args.c b.requires.0 b.requires.1 (not-false _ e.if-not-c.false) _ (read h) c.if-d-ge10.true

returns_3 : tie.Need-returns-then-v-gt99999999
returns_3 c =
    let d = c.before in
    let n = d.before.before in
    let h = n.before in
    let e = h.before.before in
    let b = e.before.before.before in
    digit_capped b.args.s.now b.args.c b.requires.0 b.requires.1 (not-false _ e.if-not-c.false) _ (d.digit_value.ensures ∙ read h) (rw (← d.digit_value.ensures) at n.if-d-ge10.false) c.if-v-gt99999999.true

returns-4 : tie.Need-returns
returns-4 c =
    let d = c.before in
    let n = d.before.before in
    let h = n.before in
    let e = h.before.before in
    let b = e.before.before.before in
    digit_more b.args.s.now b.args.c b.requires.0 b.requires.1 (not-false _ e.if-not-c.false) _ (d.digit_value.ensures ∙ read h) (rw (← d.digit_value.ensures) at n.if-d-ge10.false) c.if-v-gt99999999.false

pub digit_turn_spec : {M : Type 1} → statement M
digit_turn_spec =
    tie.close
    (tie.spec returns (search rules) (search rules) returns_2 (search rules) (search rules) (search rules) (search rules) returns_3 (search rules)
    returns-4)
