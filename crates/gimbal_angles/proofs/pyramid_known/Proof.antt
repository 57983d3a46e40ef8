-- `gimbal_angles::pyramid_known` meets its contract: each pair, looked up or worked out, is that of its angle.
use Rattle.actuators.specs.Pyramid as Pyramid
use borrow.Author.Rules.{rules}
use Rattle.gimbal_angles.proofs.pyramid_known.Statement.{statement}
use Rattle.gimbal_angles.proofs.pyramid_known.Tie as tie

returns : tie.Need-returns
unfolding Pyramid.pyramid_from
returns c =
    rw (← c.sin_cos_known-b0.ensures, ← c.sin_cos_known-b1.ensures, ← c.sin_cos_known-b2.ensures, ← c.sin_cos_known-b3.ensures) c.pyramid_by.ensures

pub pyramid_known_spec : {M : Type 1} → statement M
pyramid_known_spec =
    tie.close
    (tie.spec
    (λ c. search rules)
    (λ c κs. search rules)
    (λ c. search rules)
    (λ c κs. search rules)
    (λ c. search rules)
    (λ c κs. search rules)
    (λ c. search rules)
    (λ c κs. search rules)
    (λ c κs. search rules)
    returns)
