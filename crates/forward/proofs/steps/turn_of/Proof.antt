-- `forward::steps::turn_of` meets its contract: sum, half and product, as the definition has them.
use mathlib.Core.Path.{◌≡◌, refl, sym, ◌∙◌}
use Rattle.forward.specs.Steps as Steps
use native.Mathlib.Omega.{arith}
use borrow.Author.Rules.{rules}
use Rattle.forward.proofs.steps.turn_of.Statement.{statement}
use Rattle.forward.proofs.steps.turn_of.Tie as tie

returns : tie.Need-returns
unfolding Steps.turn_of
returns c = rw (c.scale3-2.ensures, c.scale3.ensures, c.add3.ensures)

pub turn_of_spec : {M : Type 1} → statement M
turn_of_spec = tie.close (tie.spec (λ c κs. search rules) (λ c κs. search rules) (λ c κs. search rules) returns)
