use Rattle.std.proofs.Common.{◌≡◌, ◌+◌, ◌-◌, ◌/◌, sym, ◌∙◌, arith, set, length-set}
use Rattle.text.specs.Hex.{digit_byte}
use Rattle.text_writer.proofs.Writing.{text_is, rest_none, rest_some, hex_short, turn, puts_turn, ends_turn, puts_end, ends_end}
use Rattle.text_writer.proofs.put.put_hex.Goals as goal

pub nonzero_div-rest : goal.nonzero_div-rest
nonzero_div-rest c = let l = c.loop-rest in (turn _ _ _ l.invariant.weight l.invariant.above l.invariant.below c.loop-rest-test.true).pos

pub hex_byte-requires-in-loop-rest : goal.hex_byte-requires-in-loop-rest
hex_byte-requires-in-loop-rest c = let l = c.loop-rest in (turn _ _ _ l.invariant.weight l.invariant.above l.invariant.below c.loop-rest-test.true).digit

pub nonzero_rem-rest-in-loop-rest : goal.nonzero_rem-rest-in-loop-rest
nonzero_rem-rest-in-loop-rest c = let l = c.loop-rest in (turn _ _ _ l.invariant.weight l.invariant.above l.invariant.below c.loop-rest-test.true).pos

pub loop-rest-preserved : goal.loop-rest-preserved
loop-rest-preserved c =
    let l = c.loop-rest in
    let k = c.args.at + 16 - l.i in
    let t = turn k l.weight l.rest l.invariant.weight l.invariant.above l.invariant.below c.loop-rest-test.true in
    let left : c.args.at + 16 - (l.i + 1) ≡ k - 1 = omega (arith, t.more) in
    let d = rest_some k l.rest (l.weight / 16) c.loop-rest-test.true t.more t.weight in
    let p : c.put-in-loop-rest.new.b ≡ set l.b l.i (digit_byte (l.rest / (l.weight / 16))) = c.put-in-loop-rest.ensures ∙ rw c.hex_byte-in-loop-rest.ensures in
    record {
      from = omega arith;
      weight = rw left t.weight;
      above = t.pos;
      below = t.less;
      is = rw (p, left) (l.invariant.is ∙ puts_turn l.b _ _ l.i _ d);
      ends = rw left (l.invariant.ends ∙ ends_turn _ _ l.i _ d);
      same = rw p (length-set l.b l.i _ ∙ l.invariant.same);
    }

pub returns : goal.returns
returns c =
    let a = c.args in
    let l = c.loop-rest in
    let p : c.put.new.b ≡ set a.b.now a.at (digit_byte (a.x / 1152921504606846976)) = c.put.ensures ∙ rw c.hex_byte.ensures in
    let z = rest_none _ l.rest c.loop-rest-test.false in
    let e = puts_turn a.b.now _ _ a.at _ (text_is a.x) in
    record {
      is = puts_end _ _ l.i z ∙ sym l.invariant.is ∙ rw (← p) at (sym e);
      ends = ends_end l.i _ z ∙ sym l.invariant.ends ∙ sym (ends_turn _ _ a.at _ (text_is a.x));
      short = hex_short 16 a.x;
    }
