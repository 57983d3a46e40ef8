-- What is printed of a text's dense samples, one step a sample from index 0 on: a line `(samples`, then a line for each sample, the last of which closes both
-- brackets. A refusal is printed in the place of its sample, and nothing after it. Definitions only.
use Rattle.std.specs.Prelude.{◌≡◌, ℕ, ◌+◌, Bool, true, false, cond, not, List, [], ◌++◌, ◌==◌, Float, Option, Some, None, Ok, Err}
use Rattle.common.specs.Answer.{Answer, Given, Refused}
use Rattle.samples.specs.Counts.{sample_count}
use Rattle.samples.specs.declared.PathSample.{PathSample}
use Rattle.text.specs.Bytes.{bytes}
use Rattle.text_writer.specs.Puts.{Puts}
use Rattle.text_writer.specs.Texts as Texts
use Rattle.refusal_text.specs.Sentences as Sentences
use Rattle.sample_text.specs.SampleTexts.{numbers, answer, sample_course}
use Rattle.sample_text.specs.declared.Course.{Course}
use Rattle.sample_text.specs.declared.lines.Line.{Line}
use Rattle.common.specs.Refusals.{Fate}

-- ---- the last sample of a path
abbrev pub last_by : Option ℕ → ℕ → Bool
last_by (Some count) index = index + 1 == count
last_by None index = true

unfoldable pub is_last : Float → ℕ → Float → ℕ → Bool
is_last duration requested alpha index = last_by (sample_count duration requested alpha) index

-- ---- a sample's line

-- the first one has `(samples` before it, on a line of its own
unfoldable pub opening : ℕ → List ℕ
opening index = cond (index == 0) (bytes "(samples\n (sample") (bytes " (sample")

unfoldable pub closing : Bool → List ℕ
closing last = cond last (bytes "))\n") (bytes ")\n")

unfoldable pub sample_line : ℕ → Bool → PathSample → List ℕ
sample_line index last s = opening index ++ Texts.words (numbers s) 0 14 ++ closing last

-- ---- a step of any list: what goes to standard output and to standard error, and whether another step follows
abbrev pub line_by : {A : Type 0} → (A → List ℕ) → Answer A → List ℕ
line_by form (Given a) = form a
line_by form (Refused number place runs) = Texts.refused number place runs

-- of a path that was planned a refusal is a sample's, else the plan's
abbrev pub is_planned : Fate → Bool
is_planned (Ok _) = true
is_planned (Err why) = false

abbrev pub sentence_by : {A : Type 0} → Bool → Answer A → List ℕ
sentence_by sampled (Given a) = []
sentence_by sampled (Refused number place runs) = Sentences.explain number place runs sampled

abbrev pub more_by : {A : Type 0} → Answer A → Bool → Bool
more_by (Given a) last = not last
more_by (Refused number place runs) last = false

-- both texts are put into lent buffers as far as these reach; the line has at most so many bytes
pub record Prints (line : List ℕ) (most : ℕ) (sentence : List ℕ) (more : Bool) (out said : List ℕ) (r : Line) (out' said' : List ℕ) : Type 0 where
  pub prints : Puts out 0 line most out' r.bytes
  pub says : Puts said 0 sentence 212 said' r.said
  pub goes : r.more ≡ more

-- a refusal and its sentence, after which no step follows
abbrev pub Refuses : Bool → ℕ → ℕ → ℕ → List ℕ → List ℕ → Line → List ℕ → List ℕ → Type 0
Refuses sampled number place runs = Prints (Texts.refused number place runs) 100 (Sentences.explain number place runs sampled) false

abbrev pub Steps : {A : Type 0} → (A → List ℕ) → ℕ → Bool → Answer A → Bool → List ℕ → List ℕ → Line → List ℕ → List ℕ → Type 0
Steps form most sampled a last = Prints (line_by form a) most (sentence_by sampled a) (more_by a last)

-- ---- the step of sample number index
abbrev pub StepsAt : Course → ℕ → Float → ℕ → List ℕ → List ℕ → Line → List ℕ → List ℕ → Type 0
StepsAt c requested alpha index =
    let last = is_last c.duration requested alpha index in Steps (sample_line index last) 272 (is_planned c.fate) (answer (sample_course c requested alpha index)) last
