-- The whole part is the ceiling, or one below it where it is below x (`same_whole`, `raised_whole`).
use Rattle.std.proofs.Common.{◌∙◌, arith}
use Rattle.float.proofs.Whole.{cut_fits, cut_lt, raised_whole, same_whole}
use Rattle.float.proofs.next_whole.Goals as goal

pub truncating_f64_to_u64-n-requires-clause-lower_bound : goal.truncating_f64_to_u64-n-requires-clause-lower_bound
truncating_f64_to_u64-n-requires-clause-lower_bound c = (cut_fits c.args.x c.requires).0

pub truncating_f64_to_u64-n-requires-clause-upper_bound : goal.truncating_f64_to_u64-n-requires-clause-upper_bound
truncating_f64_to_u64-n-requires-clause-upper_bound c = (cut_fits c.args.x c.requires).1

pub overflow_add-n : goal.overflow_add-n
overflow_add-n c = let n = c.truncating_f64_to_u64-n in let h = cut_lt n.result c.args.x c.requires n.ensures in omega arith

pub returns-then-f-x : goal.returns-then-f-x
returns-then-f-x c =
    let n = c.truncating_f64_to_u64-n in
    c.nearest_u64_to_f64.ensures ∙ raised_whole _ c.args.x c.requires n.ensures (rw c.nearest_u64_to_f64-f.ensures at c.if-f-x.true)

pub returns-else-f-x : goal.returns-else-f-x
returns-else-f-x c =
    let n = c.truncating_f64_to_u64-n in
    c.nearest_u64_to_f64-f.ensures ∙ same_whole _ c.args.x c.requires n.ensures (rw c.nearest_u64_to_f64-f.ensures at c.if-f-x.false)
