-- What holds of an eigenaxis plan's answer, and what every try keeps: the workspace, and demand 3 of the answer that stands. Definitions only.
use Rattle.std.specs.Prelude.{◌≡◌, List, Float}
use Rattle.problem.specs.Problems.{check}
use Rattle.problem.specs.declared.Problem.{Problem}
use Rattle.planner.specs.Plans as Plans
use Rattle.planner.specs.Promises as Promises
use Rattle.eigenaxis_seed.specs.declared.Shape.{Shape}
use Rattle.eigenaxis.specs.Ladders.{unweighted, seed_at}
use Rattle.eigenaxis.specs.declared.Ladder.{Ladder}
use Rattle.eigenaxis.specs.declared.Eigenaxis.{Eigenaxis}

-- the decision of the eigenaxis seed of the duration t
abbrev pub decision_at : Problem → Shape → Float → List Float
decision_at q shape t = Plans.seed_of (check q).problem t (seed_at q shape t).torques

-- THE PROMISE: the planner's answer is a path of which demand 3 holds for the problem with its weights at 0 and the seed that was used, or a refusal beside which the
-- path is blank
abbrev pub Answers : Problem → Shape → Eigenaxis → Type 0
Answers p shape r = Promises.Answers (unweighted p) (decision_at (unweighted p) shape r.at) r.planned

-- the same of the answer that stands on the ladder
abbrev pub Stands : Problem → Shape → Ladder → Type 0
Stands q shape s = Promises.Answers q (decision_at q shape s.at) s.planned

-- what tries keep: the workspace is left as after the runs so far, and the answer that stands is right
pub record Keeps (q : Problem) (shape : Shape) (s r : Ladder) (entry exit : List Float) : Type 0 where
  pub left : (ws : List Float) → entry ≡ Plans.leaves s.runs ws → exit ≡ Plans.leaves r.runs ws
  pub stands : Stands q shape s → Stands q shape r

-- how the first try begins
pub record Begins (q : Problem) (shape : Shape) (r : Ladder) (entry exit : List Float) : Type 0 where
  pub left : exit ≡ Plans.leaves r.runs entry
  pub stands : Stands q shape r
