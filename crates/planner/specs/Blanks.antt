-- What stands beside a refusal. Definitions only.
use Rattle.std.specs.Prelude.{◌≡◌, ℕ}
use Rattle.common.specs.Answer as Answers
use Rattle.common.specs.Refusals.{refusal}
use Rattle.planner.specs.Plans as Plans
use Rattle.planner.specs.declared.Planned.{Planned}

-- NO PATH beside a refusal: the answer is its number, place and runs, and the blank path
abbrev pub Blank : Planned → Type 0
Blank r = (number place runs : ℕ) → Plans.answer r ≡ Answers.Refused number place runs → r ≡ Plans.refused (refusal number place) runs
