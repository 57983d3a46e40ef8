-- `residuals::terms::keep_error` meets its contract: with a pointing weight one place is set to the logarithm, and the errors before it stay.
use Prim.Native.Nat.{ℕ}
use mathlib.Core.Bool.{Bool, true, false}
use mathlib.Core.Path.{◌≡◌, refl, sym, ap, ◌∙◌}
use native.Mathlib.Omega.{arith}
use lib.ListN.{length-set}
use lib.Ieee as Ieee
use Rattle.forward.specs.Rows.{nodes_from}
use Rattle.residuals.specs.BeginLaws.{error_row, errors_next}
use Rattle.residuals.proofs.terms.keep_error.Goals as goal

pub returns-in-None : goal.returns-in-None
returns-in-None c =
    (λ h. let no : ◌≡◌ {A = ℕ} 0 1 = cc in absurd (omega arith), c.requires.1.1.0)

pub returns-in-Some : goal.returns-in-Some
returns-in-Some c =
    let a = c.args in
    let pre = c.requires in
    let known = sym c.in-Some.is ∙ (c.error_in-error.ensures ∙ error_row a.nodes.now a.t.qf a.k (omega (arith, pre.1.0))) in
    (λ h p. errors_next a.t.qf (nodes_from a.nodes.now) a.k a.errors.now _ (omega (arith, pre.1.1.0)) known (pre.1.1.1 p), length-set a.errors.now a.k _ ∙ pre.1.1.0)

pub returns : goal.returns
unfolding Ieee.of_bits
returns c = (λ h p. let both : ◌≡◌ {A = Bool} true false = sym p ∙ c.if-weights.false in let no : ◌≡◌ {A = ℕ} 0 1 = cc in absurd (omega arith), c.requires.1.1.0)
