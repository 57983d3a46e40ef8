-- The planner's entries on a problem as declared, and what a call tells of their answers. Definitions only.
use Rattle.std.specs.Prelude.{ℕ, ◌≡◌, Bool, List, [], ◌∷◌, replicate, Float, Ok, Err}
use Rattle.common.specs.Floats.{plus_zero}
use Rattle.common.specs.Answer.{Answer, Given, Refused}
use Rattle.problem.specs.Answers as Checks
use Rattle.problem.specs.Problems.{check}
use Rattle.problem.specs.declared.CheckedProblem.{CheckedProblem}
use Rattle.planner.specs.Plans.{plan, plan_from, profiled, answer, leaves}
use Rattle.planner.specs.declared.Planned.{Planned}
use Rattle.samples.specs.Answers.{of_sampled}
use Rattle.samples.specs.Rows.{rows}
use Rattle.samples.specs.Samples.{Sampled}
use Rattle.plan_text.specs.PlanTexts as PlanTexts
use Rattle.sample_text.specs.SampleTexts.{numbers}
use Rattle.problem_numbers.specs.Declared.{problem}
use Rattle.export_leaves.specs.Outcomes.{number, place, runs_or, of_profiled, Placed}

-- with our own seed, on a workspace of `size` numbers
abbrev pub own : List ℕ → List Float → List Float → Bool → ℕ → Planned
own c v b limited size = plan (problem c v b limited) size

-- with a caller's seed
abbrev pub seeded : List ℕ → List Float → List Float → Bool → Float → List Float → List Float → ℕ → Planned
seeded c v b limited duration rates torques size = plan_from (problem c v b limited) duration rates torques size

-- a refusal's place, the forward runs begun; of a path the controls in a row, the wheels, the iterations
abbrev pub counts : Planned → List ℕ
counts r = place (answer r) ∷ runs_or (answer r) r.runs ∷ r.path.controls ∷ r.path.wheels ∷ r.path.iterations ∷ []

-- a refusal of checks 1 to 6 and 22, or the profile's
abbrev profile_by : Answer CheckedProblem → Answer (List Float)
profile_by (Refused n k runs) = Refused n k runs
profile_by (Given p) = of_profiled (profiled p)

-- the profile of a problem as declared, as its 22 numbers
abbrev pub profile : List ℕ → List Float → List Float → Bool → Answer (List Float)
profile c v b limited = profile_by (Checks.answer (check (problem c v b limited)))

-- ---- what a call tells, and leaves in what is lent to it

-- of a plan r: a refusal's number, or 0, the counts, and its path; beside a refusal the path is zeros
pub record PlanTold (r : Planned) (n : ℕ) (told : List ℕ) (duration defect : Float) (z : List Float) (nodes : List (List Float)) (held : List ℕ) : Type 0 where
  pub number_is : n ≡ number (answer r)
  pub counts_are : told ≡ counts r
  pub duration_is : duration ≡ r.path.duration
  pub defect_is : defect ≡ r.path.max_defect
  pub decision_is : z ≡ r.path.z
  pub nodes_are : nodes ≡ rows r.path.nodes
  pub held_are : held ≡ r.path.held

-- the same by an entry, whose workspace held ws and holds ws': untouched where no forward run began, else all +0
pub record EntryTold (r : Planned) (ws ws' : List Float)
    (n : ℕ) (told : List ℕ) (duration defect : Float) (z : List Float) (nodes : List (List Float)) (held : List ℕ) : Type 0 where
  pub plan_told : PlanTold r n told duration defect z nodes held
  pub left : ws' ≡ leaves r.runs ws

-- of a text's plan r: how many bytes are written, the bytes, the workspace
pub record TextTold (r : Planned) (n : ℕ) (out out' : List ℕ) (ws ws' : List Float) : Type 0 where
  pub bytes_are : n ≡ (PlanTexts.told r out).bytes
  pub text_is : out' ≡ PlanTexts.written r out
  pub left : ws' ≡ PlanTexts.leaves r out ws

-- a sample's 14 numbers, or zeros beside a refusal
abbrev pub numbers_or_zeros : Sampled → List Float
numbers_or_zeros (Ok s) = numbers s
numbers_or_zeros (Err why) = replicate 14 plus_zero

-- of a sample s: a refusal's number and place, or 0, and its 14 numbers, zeros beside a refusal
pub record SampleTold (s : Sampled) (n k : ℕ) (out : List Float) : Type 0 where
  pub placed : Placed (of_sampled s) n k
  pub numbers_are : out ≡ numbers_or_zeros s
