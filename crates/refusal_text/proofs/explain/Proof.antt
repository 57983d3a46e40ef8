-- `refusal_text::explain` meets its contract: the code's table is the definition's. Assumes nothing.
use borrow.Author.Rules.{rules}
use Rattle.refusal_text.specs.Sentences.{table, explain}
use Rattle.refusal_text.specs.TableLaws.{explain_short, puts_short}
use Rattle.refusal_text.proofs.explain.Statement.{statement}
use Rattle.refusal_text.proofs.explain.Tie as tie

returns : tie.Need-returns
unfolding table explain
returns c =
    let p = c.before.before in
    puts_short (explain_short _ _ _ _) (rw p.met.ensures at p.put_sentence.ensures)

pub explain_spec : {M : Type 1} → statement M
explain_spec = tie.close (tie.spec (λ c κs. search rules) (λ c κs. search rules) (λ c. search rules) returns)
