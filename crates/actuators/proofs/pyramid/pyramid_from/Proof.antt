-- `actuators::pyramid::pyramid_from` meets its contract: the matrix by what sine and cosine say of the four angles. Assumes nothing.
use Rattle.actuators.specs.Pyramid as Pyramid
use borrow.Author.Rules.{rules}
use Rattle.actuators.proofs.pyramid.pyramid_from.Statement.{statement}
use Rattle.actuators.proofs.pyramid.pyramid_from.Tie as tie

returns : tie.Need-returns
unfolding Pyramid.pyramid_from
returns c =
    rw (← c.sin_cos-b0.ensures, ← c.sin_cos-b1.ensures, ← c.sin_cos-b2.ensures, ← c.sin_cos-b3.ensures) c.pyramid_by.ensures

pub pyramid_from_spec : {M : Type 1} → statement M
pyramid_from_spec =
    tie.close
    (tie.spec
    (λ c. search rules) (λ c κs. search rules) (λ c. search rules) (λ c κs. search rules) (λ c. search rules) (λ c κs. search rules)
    (λ c. search rules) (λ c κs. search rules) (λ c κs. search rules) returns)
