-- `problem::with_starts` meets its contract: each way out is a case of the definition, told by the tests on the way. Assumes nothing.
use Rattle.problem.specs.Problems as Problems
use borrow.Author.Rules.{rules}
use Rattle.problem.proofs.with_starts.Statement.{statement}
use Rattle.problem.proofs.with_starts.Tie as tie

returns : tie.Need-returns-in_default
unfolding Problems.with_starts
returns c = rw (← c.normalized.ensures, c.in_default.is) c.refused.ensures

returns_2 : tie.Need-returns-in_default-normalized
unfolding Problems.with_starts
returns_2 c =
    rw (← c.normalized.ensures, c.in-Some.is, ← c.normalized-2.ensures, c.in_default-normalized.is) c.refused-in_default-normalized.ensures

returns_3 : tie.Need-returns
unfolding Problems.with_starts
returns_3 c =
    rw (← c.normalized.ensures, c.in-Some.is, ← c.normalized-2.ensures, c.in-Some-normalized.is) c.with_attitudes.ensures

pub with_starts_spec : {M : Type 1} → statement M
with_starts_spec =
    tie.close
    (tie.spec
    (λ c κs. search rules) (λ c. search rules) (λ c. search rules) (λ c κs. search rules) returns (λ c κs. search rules) (λ c. search rules)
    (λ c. search rules) (λ c κs. search rules) returns_2 (λ c κs. search rules) returns_3)
