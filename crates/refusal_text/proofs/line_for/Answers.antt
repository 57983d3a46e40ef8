use Rattle.std.proofs.Common.{◌≡◌, arith, length}
use Rattle.common.specs.IterLaws.{iter_none, iter_next}
use Rattle.refusal_text.specs.Sentences.{line_for}
use Rattle.refusal_text.specs.TableLaws.{later_most}
use Rattle.refusal_text.proofs.line_for.Goals as goal

pub loop-k-init : goal.loop-k-init
loop-k-init c = record { low = omega arith; is = iter_none _ 0 }

pub loop-k-preserved : goal.loop-k-preserved
loop-k-preserved c =
    let l = c.loop-k in
    record { low = rw c.later-found.ensures (later_most _ _ _ _ _ _ (omega arith)); is = iter_next _ _ _ l.invariant.is c.later-found.ensures }

pub returns : goal.returns
unfolding line_for
returns c =
    let l = c.loop-k in
    let e : l.k ≡ length c.args.t.now = omega arith in
    (rw e at l.invariant.is, omega arith)
