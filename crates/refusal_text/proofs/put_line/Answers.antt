use Rattle.std.proofs.Common.{refl, ◌∙◌, arith}
use Rattle.refusal_text.specs.TableLaws.{puts_length, goes_on, ends_line, ends_text}
use Rattle.refusal_text.proofs.put_line.Goals as goal

pub loop-k-init : goal.loop-k-init
loop-k-init c = record { low = omega arith; same = refl; goes = λ after next p. p }

pub returns-then-b-eq10 : goal.returns-then-b-eq10
returns-then-b-eq10 c = let l = c.loop-k in ends_line _ _ l.k l.invariant.goes (omega arith) c.if-b-eq10.true c.put_byte.ensures

pub loop-k-preserved : goal.loop-k-preserved
loop-k-preserved c =
    let l = c.loop-k in
    record {
      low = omega (arith, c.put_marked-at.ensures.ends, c.put_marked-at.ensures.short);
      same = puts_length c.put_marked-at.ensures ∙ l.invariant.same;
      goes = goes_on _ _ l.k l.invariant.goes (omega arith) c.if-b-eq10.false c.put_marked-at.ensures;
    }

pub returns : goal.returns
returns c = let l = c.loop-k in ends_text _ _ l.k l.invariant.goes (omega arith)
