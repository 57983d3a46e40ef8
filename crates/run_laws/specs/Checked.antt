-- What the checks before a run leave of a problem: attitudes of at most 2 ^ 56, a norm tolerance below 1, torque and slew limits that are finite and above 0, prepared actuators in order,
-- momenta that the wheels may start with. Assumes nothing.
use Rattle.std.specs.Prelude.{◌≡◌, Bool, true, false, not, cond, ◌&&◌, List, Float, Option, Some, None, Ok, Err}
use Rattle.std.proofs.Math.Path.{refl}
use Prim.Native.Nat.{ℕ, zero, ◌<◌, ◌≤◌}
use Rattle.std.proofs.Common.{arith}
use Rattle.std.proofs.Math.Dec.{T}
use Rattle.std.specs.Float.{binary64}
use Rattle.std.specs.Float.Ieee.{lt, fits}
use Rattle.std.specs.Float.Ieee.Fits.{and_l, and_r}
use Rattle.std.specs.Float.Ieee.Scale.{finite}
use Rattle.common.specs.Floats.{one, plus_zero}
use Rattle.common.specs.Lists.{at}
use Rattle.float.specs.Ops.{abs}
use Rattle.float_laws.specs.Below.{below_three}
use Rattle.float_laws.specs.Order.{held}
use Rattle.float_laws.specs.Finite.{finite_number}
use Rattle.float_laws.specs.Limits as Limits
use Rattle.float_laws.specs.Unit.{Below1}
use Rattle.geom.specs.Vec.{tensor, is_positive_value}
use Rattle.geom.specs.Quats.{normalized}
use Rattle.geom.specs.Tensors.{invert_spd}
use Rattle.geom.specs.declared.Quat.{Quat}
use Rattle.actuators.specs.Prepare.{Prepared, prepare, map_or_blank}
use Rattle.actuators.specs.declared.ActuatorMap.{ActuatorMap}
use Rattle.problem.specs.Problems as Problems
use Rattle.problem.specs.Starts.{check_starts, placed}
use Rattle.problem.specs.StartLaws.{Passed, starts_passed, placed_at, placed_past, placed_long}
use Rattle.problem.specs.declared.Momenta.{Momenta}
use Rattle.problem.specs.declared.Problem.{Problem}
use Rattle.problem.specs.declared.CheckedProblem.{CheckedProblem}
use Rattle.run_laws.specs.Values.{goes, FitsQ, WithinQ}
use Rattle.run_laws.specs.Attitudes.{normalized_is, normed_in}
use Rattle.run_laws.specs.Prepared.{FitsM, MapOk, limit_of_law, prepare_ok}
use Rattle.run_laws.specs.Runs.{MomentaOk}
use Rattle.common.specs.Refusals.{Fate}
use Rattle.std.specs.Prelude.{Result}
use Rattle.common.specs.declared.Refusal.{Refusal}

-- ---- a slew limit, where there is one, is finite and above 0
abbrev pub SlewOk : Option Float → Type 0
SlewOk None = Unit {0}
SlewOk (Some r) = Limits.Limit r

-- a problem whose numbers f64 holds, as every problem's in a program are
abbrev pub SlewFits : Option Float → Type 0
SlewFits None = Unit {0}
SlewFits (Some r) = T (fits binary64 r)

pub record FitsP (p : Problem) : Type 0 where
  pub q0 : FitsQ p.q0
  pub qf : FitsQ p.qf
  pub limit : (i : ℕ) → i < 3 → T (fits binary64 (at p.torque_limit i))
  pub slew : SlewFits p.slew
  pub tolerance : T (fits binary64 p.norm_tolerance)
  pub map : FitsM (map_or_blank (prepare p.actuators))
  pub momenta : (i : ℕ) → T (fits binary64 (at p.momenta.at i))

-- a problem that passed the checks
pub record Ready (p : CheckedProblem) : Type 0 where
  pub q0 : WithinQ 56 p.q0
  pub qf : WithinQ 56 p.qf
  pub tolerance : Below1 p.norm_tolerance
  pub limits : (i : ℕ) → i < 3 → Limits.Limit (at p.torque_limit i)
  pub slew : SlewOk p.slew
  pub map : MapOk p.map
  pub momenta : MomentaOk p.map.wheel_count p.momenta

slew_of : (l : Option Float) → SlewFits l → T (Problems.limit_fits l) → SlewOk l
slew_of None g t = tt
slew_of (Some r) g t = limit_of_law r g t

-- check 22 leaves momenta that a run may begin with
momenta_of_law : (n : ℕ) (limits : List Float) (m : Momenta) → n ≤ 8 → ((i : ℕ) → T (fits binary64 (at m.at i))) → Passed n limits m → MomentaOk n (placed n m.at)
momenta_of_law n limits m l G P = record {
  long = rw (placed_long n m.at) l;
  held = λ i h. rw (placed_at n m.at i (below i h) h) (held (G i) (finite_number (at m.at i) (fine i h)));
  fine = λ i h. rw (placed_at n m.at i (below i h) h) (fine i h);
  spare = λ i h k. placed_past n m.at i k h;
}
  where
    below : (i : ℕ) → i < n → i < 8
    below i h = omega (arith, l)

    fine : (i : ℕ) → i < n → T (finite (at m.at i))
    fine i h = and_l (finite (at m.at i)) (not (lt (at limits i) (abs (at m.at i)))) (rw (P.fit i h) tt)

module _ (p : Problem) (F : FitsP p) where
  -- check 4
  record Numbers : Type 0 where
    limits : (i : ℕ) → i < 3 → Limits.Limit (at p.torque_limit i)
    slew : SlewOk p.slew
    tolerance : Below1 p.norm_tolerance

  numbers_of : T (Problems.numbers_fit p) → Numbers
  unfolding Problems.numbers_fit
  numbers_of t =
      let l0 = is_positive_value (at p.torque_limit 0) in
      let l1 = is_positive_value (at p.torque_limit 1) in
      let l2 = is_positive_value (at p.torque_limit 2) in
      let s = Problems.limit_fits p.slew in
      let w = Problems.weights_fit p.weights in
      let n = Problems.tolerance_fits p.norm_tolerance in
      let f = Problems.limits_fit p.torque_limit in
      let t4 = and_l (f && s && w && n) (Problems.tolerance_fits p.tie_tolerance) t in
      let t3 = and_l (f && s && w) n t4 in
      let t2 = and_l (f && s) w t3 in
      let t1 = and_l f s t2 in
      let t0 = and_l (l0 && l1) l2 t1 in
      record {
        limits = below_three (λ i. Limits.Limit (at p.torque_limit i)) (limit_of_law _ (F.limit 0 (omega arith)) (and_l l0 l1 t0)) (limit_of_law _ (F.limit 1 (omega arith)) (and_r l0 l1 t0)) (limit_of_law _ (F.limit 2 (omega arith)) (and_r (l0 && l1) l2 t1));
        slew = slew_of p.slew F.slew (and_r f s t2);
        tolerance = record { fit = F.tolerance; less = and_r (lt plus_zero p.norm_tolerance) (lt p.norm_tolerance one) (and_r (f && s && w) n t4) };
      }

  module _ (m : ActuatorMap) (M : MapOk m) (N : Numbers) (H : MomentaOk m.wheel_count (placed m.wheel_count p.momenta.at)) where
    inverted : (e : Result (List Float) Refusal) (q0 qf : Quat) → WithinQ 56 q0 → WithinQ 56 qf → T (goes (Problems.inverted_by e p m q0 qf).fate) → Ready (Problems.inverted_by e p m q0 qf).problem
    inverted (Err why) q0 qf A B t = absurd t
    inverted (Ok i) q0 qf A B t = record { q0 = A; qf = B; tolerance = N.tolerance; limits = N.limits; slew = N.slew; map = M; momenta = H }

    final : (q0 : Quat) → WithinQ 56 q0 → (x : Option Quat) → normalized p.norm_tolerance p.qf ≡ x → T (goes (Problems.final_by x p m q0).fate) → Ready (Problems.final_by x p m q0).problem
    unfolding Problems.with_attitudes
    final q0 A None e t = absurd t
    final q0 A (Some qf) e t =
        inverted (invert_spd (tensor p.inertia)) q0 qf A (normed_in p.norm_tolerance p.qf qf N.tolerance F.qf (normalized_is p.norm_tolerance p.qf qf e)) t

    begun : (x : Option Quat) → normalized p.norm_tolerance p.q0 ≡ x → T (goes (Problems.start_by x p m).fate) → Ready (Problems.start_by x p m).problem
    begun None e t = absurd t
    begun (Some q0) e t =
        final q0 (normed_in p.norm_tolerance p.q0 q0 N.tolerance F.q0 (normalized_is p.norm_tolerance p.q0 q0 e)) (normalized p.norm_tolerance p.qf) refl t

  mapped : (m : ActuatorMap) → MapOk m → T (goes (Problems.with_map p m).fate) → Ready (Problems.with_map p m).problem
  unfolding Problems.with_map Problems.with_starts
  mapped m M t = go (Problems.numbers_fit p) (λ h. h) (check_starts n limits p.momenta) refl t
    where
      n : ℕ
      n = m.wheel_count

      limits : List Float
      limits = m.wheel_momenta

      go : (b : Bool) → (T b → T (Problems.numbers_fit p)) → (e : Fate) → check_starts n limits p.momenta ≡ e
          → T (goes (cond b (Problems.momenta_by e p m) (Problems.refused 4 0)).fate) → Ready (cond b (Problems.momenta_by e p m) (Problems.refused 4 0)).problem
      go true h (Ok _) e t = begun m M (numbers_of (h tt)) (momenta_of_law n limits p.momenta M.wheels F.momenta (starts_passed n limits p.momenta e)) (normalized p.norm_tolerance p.q0) refl t
      go true h (Err why) e t = absurd t
      go false h f e t = absurd t

  -- CHECKED: what passed is ready
  pub check_ready : T (goes (Problems.check p).fate) → Ready (Problems.check p).problem
  unfolding Problems.check
  check_ready t = go (prepare p.actuators) refl t
    where
      go : (e : Prepared) → prepare p.actuators ≡ e → T (goes (Problems.prepared_by e p).fate) → Ready (Problems.prepared_by e p).problem
      go (Ok m) h t = mapped m (prepare_ok p.actuators F.map h) t
      go (Err why) h t = absurd t
