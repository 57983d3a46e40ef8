-- A problem whose wheels start with +0: its runs begin as they did before wheels could turn, with three times +0 stored in the body. Assumes nothing.
use Rattle.std.specs.Prelude.{◌≡◌, Bool, true, false, not, cond, List, [], ◌∷◌, T, ltb, replicate, Float}
use Rattle.std.proofs.Math.Path.{refl}
use Rattle.std.proofs.Common.{sym, ap, ◌∙◌, arith, ltb-true}
use Prim.Native.Nat.{ℕ, zero, suc, ◌+◌, ◌*◌, ◌<◌, ◌≤◌}
use Rattle.std.proofs.Math.ListN.{get_or-replicate}
use Rattle.std.specs.Float.Ieee.{nan, add, mul, fits, of_bits}
use Rattle.std.specs.Float.{binary64}
use Rattle.std.specs.Float.Ieee.Scale.{finite}
use Rattle.common.specs.Floats as Floats
use Rattle.common.specs.Iter.{iter}
use Rattle.common.specs.Lists.{at}
use Rattle.float_laws.specs.Zeros.{is_zero, is_minus_zero, add-zero, times_zero}
use Rattle.geom.specs.Vec as Vec
use Rattle.geom.specs.Quats.{unit3}
use Rattle.geom.specs.declared.Quat.{Quat}
use Rattle.actuators.specs.Maps as Maps
use Rattle.actuators.specs.declared.Actuators.{Actuators}
use Rattle.control_rows.specs.Parts.{axes, body_momentum}
use Rattle.problem.specs.Problems.{check}
use Rattle.problem.specs.Starts.{place_start, placed}
use Rattle.problem.specs.declared.Problem.{Problem}
use Rattle.problem.specs.declared.CheckedProblem.{CheckedProblem}
use Rattle.forward.specs.Runs.{start, start_of}
use Rattle.forward.specs.declared.BodyState.{BodyState}
use Rattle.run_laws.specs.Values.{goes}
use Rattle.search_laws.specs.Axes.{unit_fine}
use Rattle.search_laws.specs.Prepared.{FitsA, Axes}
use Rattle.search_laws.specs.DeclaredLaws.{Same, check_same}

-- ---- words
-- the start with every wheel at rest: at q0, no rate, no momentum, the gimbals at +0
abbrev pub rest : Quat → BodyState
rest q0 = record { q = q0; w = Vec.zero3; h = Vec.zero3; hw = replicate 8 Floats.plus_zero; delta = replicate 4 Floats.plus_zero }

-- each wheel of the problem starts with +0
abbrev pub AtRest : Problem → Type 0
AtRest p = (i : ℕ) → i < p.actuators.wheel_count → at p.momenta.at i ≡ Floats.plus_zero

-- ---- the starts
place_rest : (n k : ℕ) (x : Float) → (k < n → x ≡ Floats.plus_zero) → place_start n k x ≡ Floats.plus_zero
place_rest n k x h = go (ltb k n) refl
  where
    go : (b : Bool) → ltb k n ≡ b → cond b x Floats.plus_zero ≡ Floats.plus_zero
    go true e = h (ltb-true k n e)
    go false e = refl

placed_rest : (n : ℕ) (v : List Float) → ((i : ℕ) → i < n → at v i ≡ Floats.plus_zero) → placed n v ≡ replicate 8 Floats.plus_zero
unfolding placed
placed_rest n v h =
    rw (
      place_rest n 0 (at v 0) (h 0),
      place_rest n 1 (at v 1) (h 1),
      place_rest n 2 (at v 2) (h 2),
      place_rest n 3 (at v 3) (h 3),
      place_rest n 4 (at v 4) (h 4),
      place_rest n 5 (at v 5) (h 5),
      place_rest n 6 (at v 6) (h 6),
      place_rest n 7 (at v 7) (h 7),
    )
    refl

-- ---- the body's momentum: +0 with finite axes scaled by +0 added
zero_fits : T (fits binary64 Floats.plus_zero)
unfolding fits of_bits
zero_fits = tt

zero_is : T (is_zero Floats.plus_zero)
unfolding of_bits
zero_is = tt

zero_plus : T (not (is_minus_zero Floats.plus_zero))
unfolding of_bits
zero_plus = tt

-- one part
added : (x : Float) → T (finite x) → add binary64 Floats.plus_zero (mul binary64 x Floats.plus_zero) ≡ Floats.plus_zero
added x f = add-zero binary64 Floats.plus_zero (mul binary64 x Floats.plus_zero) zero_fits zero_plus (times_zero binary64 x Floats.plus_zero f zero_is)

module _ (a : Actuators) (F : FitsA a) (t : List Float) where
  sum_rest : (n : ℕ) → n ≤ 8 → Axes a n t → axes t (replicate 8 Floats.plus_zero) Vec.zero3 n ≡ Vec.zero3
  unfolding iter
  sum_rest zero l A = refl
  sum_rest (suc k) l A =
      let fine = unit_fine (Maps.wheel_at a.wheels k).axis (F.axis k 0, F.axis k 1, F.axis k 2) _ _ _ (A.is k (omega arith)) in
      let before = sum_rest k (omega arith) (record { long = A.long; is = λ i h. A.is i (omega arith) }) in
      rw (before, get_or-replicate 8 k Floats.plus_zero nan (omega arith), added (at t (3 * k)) fine.0, added (at t (3 * k + 1)) fine.1, added (at t (3 * k + 2)) fine.2) refl

-- REST: for every problem that passes the checks with starts of +0, the start of its runs is `rest`, bit for bit
pub start_rest : (p : Problem) → FitsA p.actuators → T (goes (check p).fate) → p.actuators.wheel_count ≤ 8 → AtRest p → start_of (check p).problem ≡ rest (check p).problem.q0
unfolding start body_momentum
start_rest p F t l h =
    let c = (check p).problem in
    let S = check_same p t in
    let hw : c.momenta ≡ replicate 8 Floats.plus_zero = S.momenta ∙ placed_rest p.actuators.wheel_count p.momenta.at h in
    rw (hw, S.map.wheels, sum_rest p.actuators F c.map.wheel_axes p.actuators.wheel_count l S.map.tables.axes) refl
