-- `forward::steps::defect_square` meets its contract: the root of what is summed is the length that the definition takes.
use mathlib.Core.Path.{◌≡◌, refl, sym, ◌∙◌}
use Rattle.geom.specs.Quats as Quats
use Rattle.forward.specs.Steps as Steps
use native.Mathlib.Omega.{arith}
use borrow.Author.Rules.{rules}
use Rattle.forward.proofs.steps.defect_square.Statement.{statement}
use Rattle.forward.proofs.steps.defect_square.Tie as tie

returns : tie.Need-returns
unfolding Steps.defect_of Quats.norm3
returns c = rw (c.dot3.ensures, c.sub3-missed.ensures, c.euler_lhs.ensures, c.tensor.ensures)

pub defect_square_spec : {M : Type 1} → statement M
defect_square_spec =
    tie.close (tie.spec (λ c κs. search rules) (λ c κs. search rules) (λ c κs. search rules) (λ c κs. search rules) returns)
