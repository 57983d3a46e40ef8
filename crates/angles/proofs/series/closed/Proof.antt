-- `angles::series::closed` meets its contract: nine terms, or fewer with a zero one at the end.
use Rattle.std.proofs.Common.{◌+◌, sym, ap, ◌∙◌, subst, rules}
use Rattle.angles.specs.declared.series.Stage.{Stage}
use Rattle.angles.specs.EndedInner.{Ends}
use Rattle.angles.proofs.Stages.{ends_zero, ends_some}
use Rattle.angles.proofs.series.closed.Statement.{statement}
use Rattle.angles.proofs.series.closed.Tie as tie

returns : tie.Need-returns-then-p-eq0
returns c = λ k u h e. subst (λ (q : Stage). Ends k u q.sum (q.terms + 1)) (sym e) (ends_zero k u (sym (ap (λ (q : Stage). q.term) e) ∙ c.if-p-eq0.true))

returns_2 : tie.Need-returns-else-p-eq0
returns_2 c = λ k u h e. subst (λ (q : Stage). Ends k u q.sum q.terms) (sym e) (ends_some k u (λ z. c.if-p-eq0.false (ap (λ (q : Stage). q.term) e ∙ z)))

pub closed_spec : {M : Type 1} → statement M
closed_spec = tie.close (tie.spec (λ c. search rules) returns returns_2)
