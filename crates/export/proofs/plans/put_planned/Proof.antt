-- `export::plans::put_planned` meets its contract: what it reads from the plan's fate is the plan's answer. Assumes nothing.
use mathlib.Core.Path.{◌∙◌}
use Rattle.export.specs.Told.{of_plan}
use borrow.Author.Rules.{rules}
use Rattle.export.proofs.plans.put_planned.Statement.{statement}
use Rattle.export.proofs.plans.put_planned.Tie as tie

returns : tie.Need-returns
returns c =
    let told = of_plan c.args.r in
    record {
      number_is = c.number_of.ensures ∙ told.number;
      counts_are = rw (c.place_of-place.ensures, told.place, ← told.runs);
      duration_is = search rules;
      defect_is = search rules;
      decision_is = search rules;
      nodes_are = rw c.rows.ensures;
      held_are = search rules;
    }

pub put_planned_spec : {M : Type 1} → statement M
put_planned_spec = tie.close (tie.spec (λ c κs. search rules) (λ c κs. search rules) (λ c κs. search rules) returns)
