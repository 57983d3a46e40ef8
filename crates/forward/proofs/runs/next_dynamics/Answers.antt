-- `forward::runs::next_dynamics` meets its contract: below `end` the row of step i stands in the decision, and its dynamics have their own contract; then they stay.
use Rattle.common.specs.IterLaws.{row_end}
use mathlib.Core.Path.{refl}
use native.Mathlib.Omega.{arith}
use Rattle.forward.proofs.runs.next_dynamics.Goals as goal

pub overflow_mul-at : goal.overflow_mul-at
overflow_mul-at c = omega (arith, row_end c.args.i 16 c.args.n (omega (arith, c.requires.1.1.0)), c.requires.1.0.0)

pub overflow_add-at : goal.overflow_add-at
overflow_add-at c = omega (arith, row_end c.args.i 16 c.args.n (omega (arith, c.requires.1.1.0)), c.requires.1.0.0)

pub overflow_add-past : goal.overflow_add-past
overflow_add-past c = omega (arith, row_end c.args.i 16 c.args.n (omega (arith, c.requires.1.1.0)), c.requires.1.0.0)

pub offset_bounds-z-at : goal.offset_bounds-z-at
offset_bounds-z-at c =
    omega (arith, row_end c.args.i 16 c.args.n (omega (arith, c.requires.1.1.0)), c.requires.1.0.0)

pub slice_bounds-dynamics-end : goal.slice_bounds-dynamics-end
slice_bounds-dynamics-end c =
    omega (arith, row_end c.args.i 16 c.args.n (omega (arith, c.requires.1.1.0)), c.requires.1.0.0, c.requires.1.0.1)

pub returns-then-i-end : goal.returns-then-i-end
returns-then-i-end c = record { dynamics = λ h. c.dynamics.ensures; stays = λ h. absurd (omega arith) }

pub returns : goal.returns
returns c = record { dynamics = λ h m. absurd (omega arith); stays = λ h. refl }
