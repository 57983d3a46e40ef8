use Rattle.std.proofs.Common.{◌+◌, ◌*◌, ◌∙◌, arith, rules}
use Rattle.common.specs.IterLaws.{iter_none, iter_next, row_end}
use Rattle.forward.specs.PastedLaws.{length_pasted}
use Rattle.forward.proofs.decisions.project_rows.Goals as goal

pub loop-k-init : goal.loop-k-init
loop-k-init c = (search rules, iter_none _ _)

pub overflow_mul-at : goal.overflow_mul-at
overflow_mul-at c = omega (arith, row_end c.loop-k.k 16 c.args.n (search rules), c.requires.1)

pub overflow_add-at : goal.overflow_add-at
overflow_add-at c = omega (arith, row_end c.loop-k.k 16 c.args.n (search rules), c.requires.1)

pub overflow_add-end : goal.overflow_add-end
overflow_add-end c = omega (arith, row_end c.loop-k.k 16 c.args.n (search rules), c.requires.1)

pub offset_bounds-out-at : goal.offset_bounds-out-at
offset_bounds-out-at c = omega (arith, row_end c.loop-k.k 16 c.args.n (search rules), c.requires.1)

pub slice_bounds-out-end : goal.slice_bounds-out-end
slice_bounds-out-end c = omega (arith, row_end c.loop-k.k 16 c.args.n (search rules), c.requires.1, c.loop-k.invariant.0)

pub loop-k-preserved : goal.loop-k-preserved
loop-k-preserved c =
    let d = c.args.n in
    let h = c.requires.1 in
    let l = c.loop-k in
    let f = c.project_controls in
    let r = row_end l.k 16 d (search rules) in
    (length_pasted l.out f.new.u (1 + l.k * d) (1 + l.k * d + d) (omega arith) (omega (arith, l.invariant.0)) f.auto.u ∙ l.invariant.0, iter_next _ _ _ l.invariant.1 (rw (← c.requires.0, f.ensures)))
