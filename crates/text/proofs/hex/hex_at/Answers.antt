use Rattle.std.proofs.Common.{◌≡◌, sym, ◌∙◌, ◌+◌, ◌-◌, ◌/◌, ◌<◌, ◌^◌, arith, get_or}
use Rattle.text.specs.DigitLaws.{digit_within, more_step, more_stop, more_end, hex_at_step, hex_at_none, sixteenth, weighed}
use Rattle.text.specs.Hex.{digit}
use Rattle.text.proofs.hex.hex_at.Goals as goal

pub returns-then-first-ge16 : goal.returns-then-first-ge16
returns-then-first-ge16 c =
    let v : c.hex_digit-first.result ≡ digit (get_or c.args.s.now c.args.at 0) = cc in
    record { is = sym (hex_at_none c.args.s.now c.args.at _ v c.if-first-ge16.true); within = omega arith }

pub loop-i-init : goal.loop-i-init
loop-i-init c =
    let s = c.args.s.now in
    let at = c.args.at in
    let v : c.wide.result ≡ digit (get_or s at 0) = cc in
    let l : digit (get_or s at 0) < 16 = omega arith in
    let left : at + 16 - (at + 1) ≡ 15 = omega arith in
    record {
      weight = rw left;
      above = omega arith;
      below = omega arith;
      within = omega (arith, digit_within s at l);
      is = rw left (hex_at_step s at c.wide.result v (omega arith));
    }

pub returns-then-d-ge16 : goal.returns-then-d-ge16
returns-then-d-ge16 c =
    let l = c.loop-i in
    let s = c.args.s.now in
    let v : c.hex_digit-d.result ≡ digit (get_or s l.i 0) = cc in
    record { is = sym (l.invariant.is ∙ more_stop s l.i l.m _ v _ (omega arith) c.if-d-ge16.true); within = l.invariant.within }

pub loop-i-preserved : goal.loop-i-preserved
loop-i-preserved c =
    let l = c.loop-i in
    let s = c.args.s.now in
    let left = c.args.at + 16 - l.i in
    let d = c.wide-in-loop-i.result in
    let v : d ≡ digit (get_or s l.i 0) = cc in
    let b : d < 16 = omega arith in
    let some : 0 < left = omega arith in
    let next : c.args.at + 16 - (l.i + 1) ≡ left - 1 = omega arith in
    let w : l.weight / 16 ≡ 16 ^ (left - 1) = omega (arith, sixteenth left some) in
    record {
      weight = rw next w;
      above = omega (arith, sixteenth left some);
      below = omega (arith, weighed d (l.weight / 16) b);
      within = omega (arith, digit_within s l.i (omega arith));
      is = rw (next, w) (l.invariant.is ∙ more_step s l.i l.m d v left some b);
    }

pub returns : goal.returns
returns c =
    let l = c.loop-i in
    let end : l.i ≡ c.args.at + 16 = omega arith in
    record { is = rw (← end) (sym (l.invariant.is ∙ more_end c.args.s.now l.i l.m _ (omega arith))); within = omega arith }
