-- `residuals::terms::error_at` meets its contract: the error that is kept, or by the logarithm. Assumes nothing.
use mathlib.Core.Path.{◌≡◌, refl, sym, ap, ◌∙◌}
use native.Mathlib.Omega.{arith}
use Rattle.residuals.specs.BeginLaws.{error_row}
use borrow.Author.Rules.{rules}
use Rattle.residuals.proofs.terms.error_at.Statement.{statement}
use Rattle.residuals.proofs.terms.error_at.Tie as tie

returns : tie.Need-returns-then-j-k
returns c = c.requires.1.1 _ c.if-j-k.true

returns_2 : tie.Need-returns
returns_2 c =
    c.error_in.ensures ∙ error_row c.args.nodes.now c.args.qf c.args.j (omega (arith, c.requires.1.0))

pub error_at_spec : {M : Type 1} → statement M
error_at_spec =
    tie.close
    (tie.spec
    (λ c. search rules)
    (λ c. search rules)
    (λ c. search rules)
    (λ c. search rules)
    (λ c. search rules)
    (λ c. search rules)
    (λ c. search rules)
    (λ c. search rules)
    (λ c. search rules)
    returns
    (λ c. search rules)
    (λ c. search rules)
    (λ c κs. search rules)
    returns_2)
