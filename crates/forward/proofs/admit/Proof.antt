-- `forward::admit` meets its contract: the test of the row's width decides between the definition's two cases (`admit_wide`, `admit_narrow`).
use mathlib.Core.Path.{◌∙◌}
use Rattle.forward.specs.ReconstructLaws.{admit_wide, admit_narrow}
use native.Mathlib.Omega.{arith}
use borrow.Author.Rules.{rules}
use Rattle.forward.proofs.admit.Statement.{statement}
use Rattle.forward.proofs.admit.Tie as tie

returns : tie.Need-returns-then-control_dim-gt-MAX_CONTROLS
returns c =
    let check = c.check-checked in
    c.refused.ensures ∙ admit_wide _ check.ensures c.control_dim.ensures c.if-control_dim-gt-MAX_CONTROLS.true

returns_2 : tie.Need-returns
returns_2 c =
    let check = c.check-checked in
    admit_narrow _ check.ensures c.control_dim.ensures c.if-control_dim-gt-MAX_CONTROLS.false

pub admit_spec : {M : Type 1} → statement M
admit_spec =
    tie.close (tie.spec (λ c κs. search rules) (λ c κs. search rules) (λ c κs. search rules) returns returns_2)
