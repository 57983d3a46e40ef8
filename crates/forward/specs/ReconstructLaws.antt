-- What an admitted problem is, and the two cases of its admission. Assumes nothing.
use Rattle.std.specs.Prelude.{ℕ, ◌≤◌, ◌<◌, ◌≡◌, Bool, true, false, cond, ltb}
use Rattle.std.proofs.Math.Path.{refl}
use Rattle.std.proofs.Common.{ltb-false, lt→ltb}
use Rattle.std.proofs.Math.Arith.{le→nltb}
use Rattle.std.specs.Float.Ieee.Bits.{is_true, is_false}
use Rattle.actuators.specs.Maps.{control_dim}
use Rattle.problem.specs.Problems as Problems
use Rattle.problem.proofs.Passed.{passed_sized}
use Rattle.problem.specs.declared.Problem.{Problem}
use Rattle.problem.specs.declared.Checked.{Checked}
use Rattle.forward.specs.StepLaws.{refused_going}
use Rattle.forward.specs.Reconstruct.{Admitted, admit}
use Rattle.common.specs.Refusals.{going}

-- the two cases, by what the code works out
module _ (p : Problem) {c : Checked} {n : ℕ} (e : c ≡ Problems.check p) (q : n ≡ control_dim c.problem.map) where
  pub admit_wide : 12 < n → Problems.refused 8 0 ≡ admit p
  unfolding admit
  admit_wide t = rw (← e, ← q, is_true (ltb 12 n) (lt→ltb 12 n t)) refl

  pub admit_narrow : n ≤ 12 → c ≡ admit p
  unfolding admit
  admit_narrow t = rw (← e, ← q, is_false (ltb 12 n) (le→nltb 12 n t)) refl

pub admitted : (p : Problem) {c : Checked} → c ≡ admit p → c.fate ≡ going → Admitted c.problem
unfolding admit
admitted p {c} e h = rw e (by (ltb 12 (control_dim (Problems.check p).problem.map)) refl (rw e at h))
  where
    by : (b : Bool) → ltb 12 (control_dim (Problems.check p).problem.map) ≡ b → (cond b (Problems.refused 8 0) (Problems.check p)).fate ≡ going
        → Admitted (cond b (Problems.refused 8 0) (Problems.check p)).problem
    by true e h = absurd (refused_going h)
    by false e h = record { sized = passed_sized p h; narrow = ltb-false _ _ e }
