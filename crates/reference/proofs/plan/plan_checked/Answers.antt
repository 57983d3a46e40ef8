use Rattle.std.proofs.Common.{sym, ◌∙◌}
use Rattle.std.specs.Float.Ieee.{of_bits}
use Rattle.reference.specs.Plans as Plans
use Rattle.reference.specs.PlanLaws.{refused_answer, prepared_steps}
use Rattle.reference.proofs.plan.plan_checked.Goals as goal

pub plan_prepared-requires : goal.plan_prepared-requires
plan_prepared-requires c =
    (rw c.in-Ok.is at c.prepare_reference.ensures.1, rw (prepared_steps _ _ _ (sym c.prepare_reference.ensures.0 ∙ c.in-Ok.is)) c.requires.1)

pub returns-in-Err : goal.returns-in-Err
unfolding Plans.plan_checked of_bits
returns-in-Err c = (rw (← c.prepare_reference.ensures.0, c.in-Err.is, c.refuse.ensures), rw c.refuse.ensures (refused_answer _))

pub returns-in-Ok : goal.returns-in-Ok
unfolding Plans.plan_checked of_bits
returns-in-Ok c = (rw (← c.prepare_reference.ensures.0, c.in-Ok.is) c.plan_prepared.ensures.0, c.plan_prepared.ensures.1)
