-- What the programs `slew` and `slew_eigenaxis` answer to a text: its plan with our own seed, or about one axis, 8,000 numbers lent, printed, and the sentence of a refusal. Definitions only.
use Rattle.std.specs.Prelude.{ℕ, ◌≤◌, ◌≡◌, List, length}
use Rattle.planner.specs.declared.Planned.{Planned}
use Rattle.text_writer.specs.Puts.{Puts}
use Rattle.refusal_text.specs.Sentences as Sentences
use Rattle.plan_text.specs.PlanTexts as PlanTexts
use Rattle.sample_text.specs.SampleTexts.{plan_course}
use Rattle.sample_text.specs.declared.Course.{Course}
use Rattle.eigenaxis_seed.specs.declared.Shape.{Shape}
use Rattle.mosaic.specs.declared.ways.Way.{Way}
use Rattle.mosaic.specs.declared.ways.Way.TheVariants.{Search, Eigenaxis}
use Rattle.eigenaxis_text.specs.EigenaxisTexts as EigenaxisTexts
use Rattle.eigenaxis_samples.specs.Courses.{eigenaxis_course}
use Rattle.programs.specs.declared.plans.Answered.{Answered}

abbrev pub slew : List ℕ → Planned
slew text = PlanTexts.planned text 8000

-- what program `slew_eigenaxis` answers: the eigenaxis plan, as many numbers lent
abbrev pub slew_eigenaxis : List ℕ → Shape → Planned
slew_eigenaxis text shape = EigenaxisTexts.planned text shape 8000

-- what program `slew_samples` takes samples of, by the way that its arguments ask for, as many numbers lent
abbrev pub course_by : Way → List ℕ → Course
course_by Search text = plan_course text 8000
course_by (Eigenaxis shape) text = eigenaxis_course text shape 8000

-- the plan a is answered: both texts are put into lent buffers; the bytes that are told lie within the first
pub record AnswersBy (a : Planned) (out said : List ℕ) (r : Answered) (out' said' : List ℕ) : Type 0 where
  pub bytes : r.bytes ≡ (PlanTexts.told a out).bytes
  pub prints : out' ≡ PlanTexts.written a out
  pub within : r.bytes ≤ length out'
  pub says : Puts said 0 (Sentences.explain_plan (PlanTexts.told a out).fate (PlanTexts.told a out).runs) 212 said' r.said

abbrev pub Answers : List ℕ → List ℕ → List ℕ → Answered → List ℕ → List ℕ → Type 0
Answers text out said r out' said' = AnswersBy (slew text) out said r out' said'
