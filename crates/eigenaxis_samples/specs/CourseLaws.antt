-- The eigenaxis plan of a text, in the code's steps. Assumes nothing.
use Rattle.std.specs.Prelude.{ℕ, ◌≡◌, List, Float}
use Rattle.std.proofs.Common.{◌∙◌}
use Rattle.planner.specs.declared.Planned.{Planned}
use Rattle.problem_text.specs.Reader.{read_problem}
use Rattle.problem_text.specs.declared.Read.{Read}
use Rattle.plan_text.specs.PlanTexts.{of_read}
use Rattle.plan_text.specs.PlanTextLaws.{text_planned}
use Rattle.sample_text.specs.SampleTexts.{course_of}
use Rattle.sample_text.specs.declared.Course.{Course}
use Rattle.eigenaxis_seed.specs.declared.Shape.{Shape}
use Rattle.eigenaxis.specs.Ladders.{plan_eigenaxis, counted}
use Rattle.eigenaxis_samples.specs.Courses.{alpha_of, eigenaxis_course}

pub course_planned : (text : List ℕ) (shape : Shape) (size : ℕ) {read : Read} {a : Planned} {alpha : Float} {c : Course} → read ≡ read_problem text → a ≡ of_read read (λ p. counted (plan_eigenaxis p shape size)) → alpha ≡ alpha_of a → c ≡ course_of read.problem a alpha → c ≡ eigenaxis_course text shape size
unfolding eigenaxis_course
course_planned text shape size e g f h = h ∙ rw (f, text_planned text (λ p. counted (plan_eigenaxis p shape size)) e g, e)
