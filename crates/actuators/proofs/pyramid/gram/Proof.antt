-- `actuators::pyramid::gram` meets its contract: each step is its definition's. Assumes nothing.
use Rattle.actuators.specs.Pyramid as Pyramid
use borrow.Author.Rules.{rules}
use Rattle.actuators.proofs.pyramid.gram.Statement.{statement}
use Rattle.actuators.proofs.pyramid.gram.Tie as tie

returns : tie.Need-returns
unfolding Pyramid.gram
returns c =
    rw (c.dot4-9.ensures, c.dot4-8.ensures, c.dot4-7.ensures, c.dot4-6.ensures, c.dot4-5.ensures, c.dot4-4.ensures, c.dot4-3.ensures, c.dot4-2.ensures, c.dot4.ensures)

pub gram_spec : {M : Type 1} → statement M
gram_spec =
    tie.close
    (tie.spec
    (λ c. search rules) (λ c. search rules) (λ c. search rules) (λ c κs. search rules) (λ c κs. search rules) (λ c κs. search rules)
    (λ c κs. search rules) (λ c κs. search rules) (λ c κs. search rules) (λ c κs. search rules) (λ c κs. search rules) (λ c κs. search rules) returns)
