-- `scvx::room` meets its contract: sums and products of at most 193 and 79, which no word overflows.
use Rattle.scvx.specs.Search as Search
use Rattle.scvx.specs.ProgressInner.{numbers_most, width_most, product_most}
use native.Mathlib.Omega.{arith}
use Rattle.scvx.proofs.room.Goals as goal

pub overflow_add-result : goal.overflow_add-result
overflow_add-result c = omega (arith, numbers_most c.args.p c.requires, width_most c.args.p)

pub overflow_add-result-2 : goal.overflow_add-result-2
overflow_add-result-2 c = omega (arith, numbers_most c.args.p c.requires, width_most c.args.p)

pub overflow_mul-result : goal.overflow_mul-result
overflow_mul-result c =
    let n = numbers_most c.args.p c.requires in
    let m = width_most c.args.p in
    omega (arith, product_most c.numbers-n.result c.width-m.result (omega arith) (omega arith))

pub overflow_mul-result-2 : goal.overflow_mul-result-2
overflow_mul-result-2 c = omega (arith, width_most c.args.p)

pub overflow_add-result-3 : goal.overflow_add-result-3
overflow_add-result-3 c =
    let n = numbers_most c.args.p c.requires in
    let m = width_most c.args.p in
    omega (arith, product_most c.numbers-n.result c.width-m.result (omega arith) (omega arith))

pub returns : goal.returns
unfolding Search.room
returns c = rw (c.numbers-n.ensures, c.width-m.ensures)
