use Rattle.std.proofs.Common.{◌≡◌, refl, sym, ◌∙◌, ◌+◌, ◌-◌, arith, length}
use Rattle.std.specs.Prelude.{Some}
use Rattle.text.specs.Forms.{loose}
use Rattle.text.specs.Lines.{word_at}
use Rattle.text.proofs.Rows.{row_start, with_float_law, row_step, row_stop, row_end, word_within}
use Rattle.text.proofs.lines.row_at.Goals as goal

pub loop-k-init : goal.loop-k-init
loop-k-init c = rw c.no_floats-r.ensures (record { count = refl; within = omega arith; is = row_start _ _ })

pub returns-in_default : goal.returns-in_default
returns-in_default c = sym (c.loop-k.invariant.is ∙ row_stop _ _ _ (sym c.word_at.ensures.is ∙ c.in_default.is))

pub loop-k-preserved : goal.loop-k-preserved
loop-k-preserved c =
    let l = c.loop-k in
    let s = c.args.s.now in
    let x = c.in-Some.x in
    let next = c.in-Some.next in
    let e : word_at loose s l.r.at ≡ Some (x, next) = sym c.word_at.ensures.is ∙ c.in-Some.is in
    let left : length s - (l.k + 1) ≡ length s - l.k - 1 = omega arith in
    record {
      count = refl;
      within = word_within _ _ x next _ c.word_at.ensures c.in-Some.is;
      is = rw (left, with_float_law l.r l.k _ x next l.invariant.count c.put.ensures) (l.invariant.is ∙ row_step s l.r _ (omega arith) x next e);
    }

pub returns : goal.returns
returns c = sym (c.loop-k.invariant.is ∙ row_end _ _ _ (omega arith))
