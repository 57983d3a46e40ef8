use Rattle.std.proofs.Common.{◌∙◌, sym, lt-ltb}
use Rattle.reach_avoid.specs.TableLaws.{stepped_old, stepped_new, none_of, some_of}
use Rattle.reach_avoid.proofs.next_entry.Goals.{else-e-via-then-e+else-is_some, else-e-via-else-e}
use Rattle.reach_avoid.proofs.next_entry.Goals as goal

pub returns-then-is_some : goal.returns-then-is_some
returns-then-is_some c =
    let a = c.args in
    let i = some_of _ _ c.lowest_choice.result (sym c.if-is_some.ensures) c.lowest_choice.ensures in
    rw (lt-ltb i.0 5 i.1.0) at (stepped_new a.t.now a.k a.n c.if-e.true i.1.1)

pub returns-else-e : goal.returns-else-e
returns-else-e c =
    let a = c.args in
    elim c.else-e.branch [
      | else-e-via-then-e+else-is_some w ↦
          w.if-e.true ∙ stepped_new a.t.now a.k a.n w.if-e.true (sym (none_of _ w.lowest_choice.result (sym w.if-is_some.ensures) w.lowest_choice.ensures))
      | else-e-via-else-e w ↦ stepped_old a.t.now a.k a.n w.if-e.false
    ]
