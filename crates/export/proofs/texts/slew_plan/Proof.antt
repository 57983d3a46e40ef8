-- `export::texts::slew_plan` meets its contract, by the contracts of what it calls. Assumes nothing.
use borrow.Author.Rules.{rules}
use Rattle.export.proofs.texts.slew_plan.Statement.{statement}
use Rattle.export.proofs.texts.slew_plan.Tie as tie

returns : tie.Need-returns
returns c =
    let plan-text = c.plan_text-told in
    let told = plan-text.ensures in
    record { bytes_are = rw told.is; text_is = told.bytes; left = told.left }

pub slew_plan_spec : {M : Type 1} → statement M
slew_plan_spec = tie.close (tie.spec (λ c κs. search rules) (λ c. search rules) (λ c. search rules) returns)
