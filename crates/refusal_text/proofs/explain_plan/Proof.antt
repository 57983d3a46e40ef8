-- `refusal_text::explain_plan` meets its contract: each step is its definition's. Assumes nothing.
use Rattle.text_writer.specs.PutLaws.{puts_none}
use borrow.Author.Rules.{rules}
use Rattle.refusal_text.proofs.explain_plan.Statement.{statement}
use Rattle.refusal_text.proofs.explain_plan.Tie as tie

refused : tie.Need-returns-in-Err
refused c = let p = c.before.before in rw p.in-Err.is p.explain.ensures

answered : tie.Need-returns-in-Ok
answered c = rw c.in-Ok.is (puts_none _ 0 212)

pub explain_plan_spec : {M : Type 1} → statement M
explain_plan_spec = tie.close (tie.spec (search rules) (search rules) (search rules) (search rules) refused answered)
