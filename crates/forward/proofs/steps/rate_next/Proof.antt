-- `forward::steps::rate_next` meets its contract: one product and one sum, as the definition has them.
use mathlib.Core.Path.{◌≡◌, refl, sym, ◌∙◌}
use Rattle.forward.specs.Steps as Steps
use native.Mathlib.Omega.{arith}
use borrow.Author.Rules.{rules}
use Rattle.forward.proofs.steps.rate_next.Statement.{statement}
use Rattle.forward.proofs.steps.rate_next.Tie as tie

returns : tie.Need-returns
unfolding Steps.rate_next
returns c = rw (c.add3.ensures, c.scale3.ensures)

pub rate_next_spec : {M : Type 1} → statement M
rate_next_spec = tie.close (tie.spec (λ c κs. search rules) (λ c κs. search rules) returns)
