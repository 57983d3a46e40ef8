-- The cases of a row's controls and of the count of rows. Assumes nothing.
use Rattle.std.specs.Prelude.{ℕ, ◌+◌, ◌<◌, ◌≤◌, ◌≡◌, Bool, cond, List, ltb, Float, replicate, Err}
use Rattle.std.proofs.Common.{sym, lt-ltb, le-ltb}
use Rattle.std.proofs.Math.Path.{ap}
use Rattle.common.specs.Floats.{plus_zero}
use Rattle.reference_motion.specs.declared.Reference.{Reference}
use Rattle.reference_checks.specs.Checks.{controls_of}
use Rattle.reference.specs.declared.plan.Planned.{Planned}
use Rattle.export_reference.specs.Rows as Rows
use Rattle.common.specs.Refusals.{Fate, refusal, going}

module _ (r : Reference) (k : ℕ) where
  abbrev Controls : Bool → List Float
  Controls b = cond b (controls_of r k) (replicate 12 plus_zero)

  -- THE CONTROLS OF A ROW before the last are those of the promise
  pub controls_step : k < r.steps → controls_of r k ≡ Rows.step_controls r k
  unfolding Rows.step_controls
  controls_step h = ap Controls (sym (lt-ltb _ _ h))

  pub controls_last : r.steps ≤ k → replicate 12 plus_zero ≡ Rows.step_controls r k
  unfolding Rows.step_controls
  controls_last h = ap Controls (sym (le-ltb _ _ h))

module _ (x : Planned) (lent : ℕ) where
  abbrev Count : Fate → ℕ
  Count f = Rows.count_by_value f lent (x.reference.steps + 1)

  pub count_refused : {n k : ℕ} → x.fate ≡ Err (refusal n k) → 0 ≡ Rows.count x lent
  unfolding Rows.count
  count_refused e = ap Count (sym e)

  pub count_going : x.fate ≡ going → cond (ltb lent (x.reference.steps + 1)) lent (x.reference.steps + 1) ≡ Rows.count x lent
  unfolding Rows.count
  count_going e = ap Count (sym e)

  pub count_lent : lent < x.reference.steps + 1 → x.fate ≡ going → lent ≡ Rows.count x lent
  count_lent h e = rw (lt-ltb _ _ h) at (count_going e)

  pub count_all : x.reference.steps + 1 ≤ lent → x.fate ≡ going → x.reference.steps + 1 ≡ Rows.count x lent
  count_all h e = rw (le-ltb _ _ h) at (count_going e)
