-- `plan_text::tell_refused` meets its contract: each step is its definition's. Assumes nothing.
use Rattle.plan_text.specs.PlanTextLaws.{prints_refused}
use borrow.Author.Rules.{rules}
use Rattle.plan_text.proofs.tell_refused.Statement.{statement}
use Rattle.plan_text.proofs.tell_refused.Tie as tie

returns : tie.Need-returns
returns c = prints_refused c.write_refused-bytes.ensures

pub tell_refused_spec : {M : Type 1} → statement M
tell_refused_spec = tie.close (tie.spec (search rules) (search rules) returns)
