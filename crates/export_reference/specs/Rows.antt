-- The samples of a reference as rows of 31 numbers. Definitions only.
use Rattle.std.specs.Prelude.{ℕ, ◌+◌, cond, List, [], ◌∷◌, ltb, replicate, set, Float, Ok, Err}
use Rattle.std.specs.Float.{binary64}
use Rattle.std.specs.Float.Ieee.{mul}
use Rattle.common.specs.Floats.{plus_zero}
use Rattle.common.specs.Iter.{iter}
use Rattle.common.specs.Lists.{at}
use Rattle.reference_motion.specs.declared.Reference.{Reference}
use Rattle.reference_motion.specs.declared.Sample.{Sample}
use Rattle.reference_motion.specs.Motion.{fraction}
use Rattle.reference_checks.specs.Checks.{sample_of, controls_of}
use Rattle.reference.specs.declared.plan.Planned.{Planned}
use Rattle.common.specs.Refusals.{Fate}

-- ---- a row

-- the controls of the step that begins at sample k; zeros at the last one
unfoldable pub step_controls : Reference → ℕ → List Float
step_controls r k = cond (ltb k r.steps) (controls_of r k) (replicate 12 plus_zero)

-- the first eight of twelve numbers, then those of l
abbrev pub eight : List Float → List Float → List Float
eight h l = at h 0 ∷ at h 1 ∷ at h 2 ∷ at h 3 ∷ at h 4 ∷ at h 5 ∷ at h 6 ∷ at h 7 ∷ l

abbrev twelve : List Float → List Float
twelve u = eight u (at u 8 ∷ at u 9 ∷ at u 10 ∷ at u 11 ∷ [])

abbrev three : List Float → List Float → List Float
three w l = at w 0 ∷ at w 1 ∷ at w 2 ∷ l

-- time, attitude, rate, its derivative, the momenta of eight wheels, the controls
abbrev pub numbers : Float → Sample → List Float → List Float
numbers t s u = t ∷ s.q.w ∷ s.q.x ∷ s.q.y ∷ s.q.z ∷ three s.w (three s.a (eight s.h (twelve u)))

-- sample k stands at the fraction k / N of the duration
unfoldable pub row : Reference → ℕ → List Float
row r k = numbers (mul binary64 r.duration (fraction k r.steps)) (sample_of r k) (step_controls r k)

-- ---- the rows

abbrev pub put_row : Reference → ℕ → List (List Float) → List (List Float)
put_row r k l = set l k (row r k)

-- rows 0, 1 and on, n of them; the others stay
unfoldable pub written : Reference → List (List Float) → ℕ → List (List Float)
written r out n = iter (put_row r) out n

abbrev pub count_by_value : Fate → ℕ → ℕ → ℕ
count_by_value (Err why) lent all = 0
count_by_value (Ok _) lent all = cond (ltb lent all) lent all

-- as many as there are samples and as rows are lent; none of a refusal
unfoldable pub count : Planned → ℕ → ℕ
count x lent = count_by_value x.fate lent (x.reference.steps + 1)
