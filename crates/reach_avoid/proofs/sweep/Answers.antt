use Rattle.std.proofs.Common.{suc, ap, ◌∙◌, add-one, arith}
use Rattle.reach_avoid.specs.TableInner.{stepped, turns_at_value}
use Rattle.reach_avoid.specs.TableLaws.{stored_more, stepped_is}
use Rattle.reach_avoid.proofs.sweep.Goals as goal

pub loop-k-preserved : goal.loop-k-preserved
loop-k-preserved c =
    let m = c.args.m in
    let l = c.loop-k in
    stored_more (turns_at_value (suc m)) (turns_at_value m) l.k l.t c.next_entry.result (omega arith) l.invariant
    (c.next_entry.ensures ∙ ap (stepped l.t l.k) (add-one m) ∙ stepped_is m (omega arith) l.k l.t l.invariant (omega arith))
