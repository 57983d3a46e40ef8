-- What a call of drive against draught tells, and leaves in the numbers lent for it: the answer, or what stood there. Definitions only.
use Rattle.std.specs.Prelude.{ℕ, ◌≡◌, ℤ}
use Rattle.common.specs.Answer.{Answer}
use Rattle.reach_avoid.specs.Answers.{Prospect}
use Rattle.export_leaves.specs.Outcomes.{number, value_or, map}

-- of a start's answer a: a refusal's number, or 0, the turns and the first choice
pub record StartTold (a : Answer Prospect) (n turns turns' : ℕ) (choice choice' : ℤ) : Type 0 where
  pub number_is : n ≡ number a
  pub turns_are : turns' ≡ value_or (map (λ (p : Prospect). p.turns) a) turns
  pub choice_is : choice' ≡ value_or (map (λ (p : Prospect). p.choice) a) choice
