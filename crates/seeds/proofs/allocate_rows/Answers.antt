-- After k turns the first k rows are allocated, and each row lies within the decision.
use Rattle.std.proofs.Common.{◌≡◌, ◌+◌, ◌*◌, ◌-◌, ◌≤◌, length, rules, arith}
use Rattle.common.specs.IterLaws.{iter_none, iter_next, row_end}
use Rattle.seeds.specs.RowLaws.{length_slice}
use Rattle.seeds.proofs.allocate_rows.Goals as goal

pub loop-k-init : goal.loop-k-init
loop-k-init c = iter_none _ _

pub loop-k-preserved : goal.loop-k-preserved
loop-k-preserved c =
    let n = c.args.n in
    let l = c.loop-k in
    let long : length l.out ≡ 193 = search rules in
    let room : 1 + l.k * n + n ≤ 193 = omega (arith, row_end l.k 16 n (omega arith), c.requires.1.0) in
    let g = length_slice l.out (1 + l.k * n) (1 + l.k * n + n) (omega arith) in
    let e : 1 + l.k * n + n - (1 + l.k * n) ≡ n = omega arith in
    iter_next _ _ _ l.invariant (rw (← c.requires.0, c.put_row.ensures, g, e, c.row_of.ensures))
