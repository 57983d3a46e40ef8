-- `problem::starts::placed` meets its contract: each step is its definition's. Assumes nothing.
use borrow.Author.Rules.{rules}
use Rattle.problem.specs.Starts as Starts
use Rattle.problem.proofs.starts.placed.Statement.{statement}
use Rattle.problem.proofs.starts.placed.Tie as tie

returns : tie.Need-returns
unfolding Starts.placed
returns c =
    rw (
      c.place_start-8.ensures,
      c.place_start-7.ensures,
      c.place_start-6.ensures,
      c.place_start-5.ensures,
      c.place_start-4.ensures,
      c.place_start-3.ensures,
      c.place_start-2.ensures,
      c.place_start.ensures,
    )

pub placed_spec : {M : Type 1} → statement M
placed_spec =
    tie.close
    (tie.spec
    (λ c. search rules) (λ c κs. search rules) (λ c. search rules) (λ c κs. search rules) (λ c. search rules) (λ c κs. search rules)
    (λ c. search rules) (λ c κs. search rules) (λ c. search rules) (λ c κs. search rules) (λ c. search rules) (λ c κs. search rules)
    (λ c. search rules) (λ c κs. search rules) (λ c. search rules) (λ c κs. search rules) returns)
