-- What a passed check says of the problem: the counts of its actuators are within their tables. Assumes nothing.
use Rattle.std.specs.Prelude.{ℕ, ◌≡◌, refl, Bool, true, false, cond, List, Float, Option, Some, None, Ok, Err}
use Rattle.std.proofs.Common.{arith}
use Rattle.geom.specs.declared.Quat.{Quat}
use Rattle.geom.specs.Vec.{tensor}
use Rattle.geom.specs.Quats.{normalized}
use Rattle.geom.specs.Tensors.{invert_spd}
use Rattle.actuators.specs.declared.ActuatorMap.{ActuatorMap}
use Rattle.actuators.specs.Maps.{is_sized}
use Rattle.actuators.specs.Prepare.{Prepared, prepare}
use Rattle.actuators.specs.ReadyLaws.{of_map, prepared_sized}
use Rattle.problem.specs.declared.Problem.{Problem}
use Rattle.problem.specs.declared.Checked.{Checked}
use Rattle.problem.specs.Problems as Problems
use Rattle.problem.specs.Starts.{check_starts}
use Rattle.common.specs.Refusals.{Fate, refusal, going}
use Rattle.std.specs.Prelude.{Result}
use Rattle.common.specs.declared.Refusal.{Refusal}

never : {n place : ℕ} {A : Type 0} → Err (refusal n place) ≡ going → A
never e = let z : ◌≡◌ {A = ℕ} 0 1 = cc in absurd (omega arith)

-- a check that goes on hands the map on
module _ (p : Problem) (map : ActuatorMap) where
  abbrev Kept : Checked → Type 0
  Kept c = c.fate ≡ going → c.problem.map ≡ map

  kept_inverted : (i : Result (List Float) Refusal) (q0 qf : Quat) → Kept (Problems.inverted_by i p map q0 qf)
  kept_inverted (Err why) q0 qf g = never g
  kept_inverted (Ok m) q0 qf g = refl

  kept_final : (n : Option Quat) (q0 : Quat) → Kept (Problems.final_by n p map q0)
  unfolding Problems.with_attitudes
  kept_final None q0 g = never g
  kept_final (Some qf) q0 g = kept_inverted (invert_spd (tensor p.inertia)) q0 qf g

  kept_start : (n : Option Quat) → Kept (Problems.start_by n p map)
  kept_start None g = never g
  kept_start (Some q0) g = kept_final (normalized p.norm_tolerance p.qf) q0 g

  kept_momenta : (f : Fate) → Kept (Problems.momenta_by f p map)
  unfolding Problems.with_starts
  kept_momenta (Err why) g = never g
  kept_momenta (Ok _) g = kept_start (normalized p.norm_tolerance p.q0) g

  kept_numbers : (b : Bool) (f : Fate) → Kept (cond b (Problems.momenta_by f p map) (Problems.refused 4 0))
  kept_numbers true f g = kept_momenta f g
  kept_numbers false f g = never g

  kept : Kept (Problems.with_map p map)
  unfolding Problems.with_map
  kept g = kept_numbers (Problems.numbers_fit p) (check_starts map.wheel_count map.wheel_momenta p.momenta) g

sized_by : (p : Problem) (f : Prepared) → prepare p.actuators ≡ f → (Problems.prepared_by f p).fate ≡ going → is_sized (Problems.prepared_by f p).problem.map ≡ true
sized_by p (Err why) e g = never g
sized_by p (Ok m) e g = rw (kept p m g) (of_map (λ (m : ActuatorMap). is_sized m ≡ true) (prepared_sized p.actuators) e)

-- where the checks pass, the actuators' counts are within their tables: what the forward run asks for
pub passed_sized : (p : Problem) → (Problems.check p).fate ≡ going → is_sized (Problems.check p).problem.map ≡ true
unfolding Problems.check
passed_sized p g = sized_by p (prepare p.actuators) refl g
