-- What is told of a text, and its canonical text in a lent buffer. Definitions only.
use Rattle.std.specs.Prelude.{ℕ, ◌≤◌, ◌≡◌, cond, List, [], ◌++◌, ltb, length, drop, Ok, Err}
use Rattle.actuators.specs.declared.Actuators.{Actuators}
use Rattle.problem.specs.declared.Problem.{Problem}
use Rattle.text_writer.specs.Puts.{Puts}
use Rattle.problem_text.specs.Reader.{read_problem}
use Rattle.canonical.specs.declared.Told.{Told}
use Rattle.canonical.specs.Writing.{written}
use Rattle.common.specs.Refusals.{Fate, refusal, going}

-- 1 where there are too many wheels (place 0) or thrusters (place 1)
unfoldable pub counts_fate : Actuators → Fate
counts_fate a = cond (ltb 8 a.wheel_count) (Err (refusal 1 0)) (cond (ltb 12 a.thruster_count) (Err (refusal 1 1)) going)

-- how a text is taken that was read so
abbrev pub fate_by : Fate → Problem → Fate
fate_by (Err why) p = Err why
fate_by (Ok _) p = counts_fate p.actuators

abbrev pub text_by : Fate → Problem → List ℕ
text_by (Err why) p = []
text_by (Ok _) p = written p

-- ---- of a text: 21 or 1, or its canonical text
unfoldable pub fate_of : List ℕ → Fate
fate_of t = fate_by (read_problem t).fate (read_problem t).problem

unfoldable pub text_of : List ℕ → List ℕ
text_of t = text_by (read_problem t).fate (read_problem t).problem

-- ---- what is told of it, and the lent buffer at exit. A buffer of less than 4,096 bytes gets nothing: 99, which is no refusal's number.

unfoldable pub told : List ℕ → List ℕ → Told
told t out = cond (ltb (length out) 4096) (record { fate = Err (refusal 99 0); bytes = 0 }) (record { fate = fate_of t; bytes = length (text_of t) })

-- the bytes, then what stood after them
unfoldable pub left : List ℕ → List ℕ → List ℕ
left t out = cond (ltb (length out) 4096) out (text_of t ++ drop (length (text_of t)) out)

-- ---- contracts

-- what was read so is written anew into a buffer, as far as it reaches
pub record Rewrites (fate : Fate) (p : Problem) (out : List ℕ) (r : Told) (out' : List ℕ) : Type 0 where
  pub is : r.fate ≡ fate_by fate p
  pub puts : Puts out 0 (text_by fate p) 4096 out' r.bytes

-- the answer to a text is told; the bytes written lie within the buffer
pub record Tells (t out : List ℕ) (r : Told) (out' : List ℕ) : Type 0 where
  pub is : r ≡ told t out
  pub bytes : out' ≡ left t out
  pub within : r.bytes ≤ length out'
