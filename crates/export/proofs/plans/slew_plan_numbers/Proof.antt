-- `export::plans::slew_plan_numbers` meets its contract, by the contracts of what it calls. Assumes nothing.
use borrow.Author.Rules.{rules}
use Rattle.export.proofs.plans.slew_plan_numbers.Statement.{statement}
use Rattle.export.proofs.plans.slew_plan_numbers.Tie as tie

returns : tie.Need-returns
returns c =
    let is = rw c.problem_of-p.ensures at c.plan-planned.ensures.0 in
    record { plan_told = rw is at c.put_planned.ensures; left = rw (c.plan-planned.ensures.1.0, is) }

pub slew_plan_numbers_spec : {M : Type 1} → statement M
slew_plan_numbers_spec =
    tie.close
    (tie.spec
    (λ c κs. search rules) (λ c κs. search rules) (λ c κs. search rules) (λ c. search rules) returns)
