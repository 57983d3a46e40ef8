-- `plan_text::tell` meets its contract: each way out is its definition's, by the tests that lead there. Assumes nothing.
use mathlib.Core.Path.{refl}
use Rattle.plan_text.specs.PlanTextLaws.{prints_path, prints_refusal}
use borrow.Author.Rules.{rules}
use Rattle.plan_text.proofs.tell.Statement.{statement}
use Rattle.plan_text.proofs.tell.Tie as tie

returns : tie.Need-returns-in-Err
returns c =
    prints_refusal c.in-Err.is c.tell_refused.ensures

returns_2 : tie.Need-returns-in-Ok
returns_2 c =
    prints_path c.in-Ok.is refl c.print_path-bytes.ensures

pub tell_spec : {M : Type 1} → statement M
tell_spec = tie.close (tie.spec (search rules) (search rules) (search rules) (search rules) (search rules) returns (search rules) returns_2)
