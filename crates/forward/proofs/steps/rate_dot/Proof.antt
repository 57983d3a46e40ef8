-- `forward::steps::rate_dot` meets its contract: the contracts of the tensors and vectors that it calls, in the definition's order.
use mathlib.Core.Path.{◌≡◌, refl, sym, ◌∙◌}
use Rattle.forward.specs.Steps as Steps
use native.Mathlib.Omega.{arith}
use borrow.Author.Rules.{rules}
use Rattle.forward.proofs.steps.rate_dot.Statement.{statement}
use Rattle.forward.proofs.steps.rate_dot.Tie as tie

returns : tie.Need-returns
unfolding Steps.rate_dot
returns c =
    let tensor = c.tensor in
    rw (c.apply_tensor.ensures, c.sub3.ensures, c.tensor-2.ensures, c.euler_lhs-gyro.ensures, tensor.ensures)

pub rate_dot_spec : {M : Type 1} → statement M
rate_dot_spec =
    tie.close
    (tie.spec
    (λ c κs. search rules)
    (λ c κs. search rules)
    (λ c κs. search rules)
    (λ c κs. search rules)
    (λ c κs. search rules)
    returns)
