-- The eigenaxis plan of a problem's text. Definitions only.
use Rattle.std.specs.Prelude.{ℕ, List}
use Rattle.planner.specs.declared.Planned.{Planned}
use Rattle.plan_text.specs.PlanTexts.{of_text}
use Rattle.eigenaxis_seed.specs.declared.Shape.{Shape}
use Rattle.eigenaxis.specs.Ladders.{plan_eigenaxis, counted}

-- in a workspace of `size` numbers; a text that is not of the form is refused before
abbrev pub planned : List ℕ → Shape → ℕ → Planned
planned text shape size = of_text text (λ p. counted (plan_eigenaxis p shape size))
