use borrow.Author.Rules.{rules}
use Rattle.std.proofs.Common.{◌<◌, ◌≡◌, arith}
use Rattle.common.specs.IterLaws.{row_end}
use Rattle.gimbal_angles.specs.KnownLaws.{filled_fewer}
use Rattle.shared_runs.proofs.known.fill_angles.Goals as goal

pub loop-k-init : goal.loop-k-init
loop-k-init c = record { long = c.requires.1.1.1; right = λ i h. absurd (omega (arith, h)) }

pub overflow_mul-at : goal.overflow_mul-at
overflow_mul-at c = let small : c.loop-k.k < 16 = search rules in omega (arith, row_end c.loop-k.k 16 c.args.n small, c.requires.0, c.requires.1.0, c.requires.1.1.0)

pub overflow_add-at : goal.overflow_add-at
overflow_add-at c = let small : c.loop-k.k < 16 = search rules in omega (arith, row_end c.loop-k.k 16 c.args.n small, c.requires.0, c.requires.1.0, c.requires.1.1.0)

pub overflow_add-past : goal.overflow_add-past
overflow_add-past c = let small : c.loop-k.k < 16 = search rules in omega (arith, row_end c.loop-k.k 16 c.args.n small, c.requires.0, c.requires.1.0, c.requires.1.1.0)

pub offset_bounds-z-at : goal.offset_bounds-z-at
offset_bounds-z-at c = let small : c.loop-k.k < 16 = search rules in omega (arith, row_end c.loop-k.k 16 c.args.n small, c.requires.0, c.requires.1.0, c.requires.1.1.0)

pub slice_bounds-gimbals_next-end : goal.slice_bounds-gimbals_next-end
slice_bounds-gimbals_next-end c = let small : c.loop-k.k < 16 = search rules in omega (arith, row_end c.loop-k.k 16 c.args.n small, c.requires.0, c.requires.1.0, c.requires.1.1.0)

pub put_angles-requires : goal.put_angles-requires
put_angles-requires c = (search rules, c.loop-k.invariant)

pub loop-k-preserved : goal.loop-k-preserved
loop-k-preserved c = filled_fewer c.put_angles.ensures (omega arith)

pub returns : goal.returns
returns c = let all : c.loop-k.k ≡ 16 = search rules in filled_fewer c.loop-k.invariant (omega (arith, all))
