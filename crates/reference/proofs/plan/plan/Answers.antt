use native.Mathlib.Omega.{arith}
use Rattle.reference.proofs.plan.plan.Goals as goal
use mathlib.Core.Path.{◌≡◌}
use borrow.Author.Tests.{lt-ltb, le-ltb}
use Rattle.problem.specs.Problems as Problems
use Rattle.problem.proofs.Passed.{passed_sized}
use Rattle.reference.specs.Plans as Plans
use Rattle.reference.specs.PlanLaws.{refused_answer}
use Rattle.common.specs.Refusals.{going}

pub returns-then-steps-gt100000 : goal.returns-then-steps-gt100000
unfolding Plans.plan
returns-then-steps-gt100000 c = (rw (lt-ltb _ _ c.if-steps-gt100000.true, c.refuse.ensures), rw c.refuse.ensures (refused_answer _))

pub plan_checked-requires : goal.plan_checked-requires
plan_checked-requires c = let g : (Problems.check c.args.p).fate ≡ going = rw c.check-checked.ensures at c.in-Ok.is in (rw c.check-checked.ensures (passed_sized _ g), omega arith)

pub returns-in-Err : goal.returns-in-Err
unfolding Plans.plan
returns-in-Err c = (rw (le-ltb _ _ c.if-steps-gt100000.false, ← c.check-checked.ensures, c.in-Err.is, c.refuse-in-Err.ensures), rw c.refuse-in-Err.ensures (refused_answer _))

pub returns-in-Ok : goal.returns-in-Ok
unfolding Plans.plan
returns-in-Ok c = (rw (le-ltb _ _ c.if-steps-gt100000.false, ← c.check-checked.ensures, c.in-Ok.is) c.plan_checked.ensures.0, c.plan_checked.ensures.1)
