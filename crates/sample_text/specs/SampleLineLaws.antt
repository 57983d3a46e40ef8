-- What is printed of a sample, in the code's steps. Assumes nothing.
use Rattle.std.specs.Prelude.{◌≡◌, ℕ, ◌+◌, ◌≤◌, Bool, false, not, List, ◌==◌, ◌≢◌, refl, Float, Result, Ok, Err}
use Rattle.std.proofs.Common.{arith, sym, ne_eqb}
use Rattle.samples.specs.declared.PathSample.{PathSample}
use Rattle.text_writer.specs.Puts.{Puts}
use Rattle.text_writer.specs.PutLaws.{puts_none, puts_most}
use Rattle.text_writer.specs.Texts as Texts
use Rattle.sample_text.specs.SampleTexts.{answer_by, answer, sample_course}
use Rattle.sample_text.specs.SampleLines.{is_last, is_planned, sample_line, opening, closing, Refuses, Steps, StepsAt}
use Rattle.sample_text.specs.declared.Course.{Course}
use Rattle.sample_text.specs.declared.Dense.{Dense}
use Rattle.sample_text.specs.declared.lines.Line.{Line}
use Rattle.common.specs.declared.Refusal.{Refusal}

-- between the first line and the last stand the lines that `write_sample` writes
pub line_between : (index : ℕ) (s : PathSample) → (index ≢ 0) → sample_line index false s ≡ Texts.sample s.t s.q s.w s.tau s.h
unfolding sample_line opening closing Texts.sample
line_between index s h = rw (ne_eqb _ _ h)

pub not_last : {index count : ℕ} → count ≤ index → false ≡ (index + 1 == count)
not_last {index} {count} h = sym (ne_eqb (index + 1) count (λ e. omega arith))

-- ---- a step of any list: refused, and given
module _ {A : Type 0} (form : A → List ℕ) (sampled last : Bool) (runs : ℕ) {f : Result A Refusal} {most : ℕ} {out said out' : List ℕ} where
  pub step_refused : {why : Refusal} {said' : List ℕ} {r : Line} → 100 ≤ most → f ≡ Err why → Refuses sampled why.number why.place runs out said r out' said' → Steps form most sampled (answer_by runs f) last out said r out' said'
  step_refused l e s = rw e (record { prints = puts_most l s.prints; says = s.says; goes = s.goes })

  pub step_given : {x : A} {i : ℕ} → f ≡ Ok x → Puts out 0 (form x) most out' i → Steps form most sampled (answer_by runs f) last out said (record { bytes = i; said = 0; more = not last }) out' said
  step_given e p = rw e (record { prints = p; says = puts_none said 0 212; goes = refl })

-- ---- the step of sample number index
module _ (c : Course) (requested : ℕ) (alpha : Float) (index : ℕ) {d : Dense} {out said out' : List ℕ} (e : d ≡ sample_course c requested alpha index) where
  pub steps_refused : {why : Refusal} {sampled : Bool} {said' : List ℕ} {r : Line} → sampled ≡ is_planned c.fate → d.sampled ≡ Err why → Refuses sampled why.number why.place d.runs out said r out' said' → StepsAt c requested alpha index out said r out' said'
  unfolding answer
  steps_refused {sampled = sampled} g f s = rw (← e, ← g) (step_refused (sample_line index (is_last c.duration requested alpha index)) sampled _ d.runs (omega arith) f s)

  pub steps_given : {s : PathSample} {last : Bool} {i : ℕ} → d.sampled ≡ Ok s → last ≡ is_last c.duration requested alpha index → Puts out 0 (sample_line index last s) 272 out' i → StepsAt c requested alpha index out said (record { bytes = i; said = 0; more = not last }) out' said
  unfolding answer
  steps_given {last = last} f l p = rw (← e, ← l) (step_given (sample_line index last) (is_planned c.fate) last d.runs f p)
