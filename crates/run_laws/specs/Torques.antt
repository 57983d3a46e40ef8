-- Torques and momenta of a control row: a finite torque comes of finite controls, and the wheels' momenta after a step are each wheel's own sum. Assumes nothing.
use Rattle.std.specs.Prelude.{◌≡◌, Bool, not, cond, ◌&&◌, List, [], ◌∷◌, eqb, ltb, length, take, drop, Float, Option, Some, None}
use Rattle.std.proofs.Math.Path.{refl, ap}
use Rattle.std.proofs.Common.{sym, ◌∙◌, arith, eqb→eq, ltb→lt, nltb→le, length-drop, get_or-set_same, get_or-take, get_or-drop}
use Rattle.std.proofs.Math.Bool.{true, false}
use Prim.Native.Nat.{ℕ, zero, suc, ◌+◌, ◌-◌, ◌<◌, ◌≤◌}
use Rattle.std.proofs.Math.Dec.{T}
use Rattle.std.proofs.Math.Seq.{take-length, get_or-set_other}
use Rattle.std.specs.Float.Ieee.{nan, binary64, add, mul, fits, of_bits}
use Rattle.std.specs.Float.Ieee.Fits.{add-fits}
use Rattle.std.specs.Float.Ieee.Scale.{finite}
use Rattle.common.specs.Iter.{iter}
use Rattle.common.specs.Lists.{at, slice}
use Rattle.float_laws.specs.Below.{below_none, below_next, below_three, below_four}
use Rattle.float_laws.specs.Finite.{finites, add_finite, mul_finite}
use Rattle.geom.specs.Vec.{add3, scale3, zero3, minus_one}
use Rattle.actuators.specs.Maps.{axis_at, gimbals, no_cmgs}
use Rattle.control_rows.specs.Stored.{stored}
use Rattle.control_rows.specs.StoredLaws.{stored_length}
use Rattle.control_rows.specs.Parts.{axes, wheel_by, wheel_part, pyramid_part, gimbal_part, bare, width, parts_torque, row_torque, charged, momenta_next}
use Rattle.control_rows.specs.declared.Rig.{Rig}
use Rattle.control_rows.specs.declared.WheelLaw.{WheelLaw}
use Rattle.control_rows.specs.declared.WheelLaw.TheVariants.{Once, Published}
use Rattle.run_laws.specs.Values.{Fine3, Fit3, FineN, FitN}
use Rattle.actuators.specs.declared.CmgPyramid.{CmgPyramid}

-- ---- numbers of a part of a row
pub at_slice : (a e : ℕ) (u : List Float) (i : ℕ) → i < e - a → at (slice a e u) i ≡ at u (a + i)
at_slice a e u i h = get_or-take (e - a) (drop a u) i nan h ∙ get_or-drop a u i nan

-- the same of the part up to the end, also past it
at_rest : (a : ℕ) (u : List Float) (i : ℕ) → at (slice a (length u) u) i ≡ at u (a + i)
at_rest a u i = ap (λ (n : ℕ). at (take n (drop a u)) i) (sym (length-drop a u)) ∙ (ap (λ (l : List Float). at l i) (take-length (drop a u)) ∙ get_or-drop a u i nan)

-- ---- a sum of scaled axes
module _ (t u e : List Float) where
  -- where it is finite, so is what it starts from
  pub axes_start : (n : ℕ) → Fine3 (axes t u e n) → Fine3 e
  unfolding iter
  axes_start zero f = f
  axes_start (suc n) f = axes_start n ((add_finite binary64 _ _ f.0).0, (add_finite binary64 _ _ f.1).0, (add_finite binary64 _ _ f.2).0)

  -- and each number that scales an axis
  pub axes_back : (n : ℕ) → T (finite (at (axes t u e n) 0)) → FineN n u
  unfolding iter
  axes_back zero f = below_none (λ i. T (finite (at u i)))
  axes_back (suc n) f =
      let a = add_finite binary64 (at (axes t u e n) 0) (mul binary64 (at (axis_at t n) 0) (at u n)) f in
      below_next (λ i. T (finite (at u i))) n (mul_finite binary64 (at (axis_at t n) 0) (at u n) a.1).1 (axes_back n a.0)

  pub axes_fits : (n : ℕ) → Fit3 e → Fit3 (axes t u e n)
  unfolding iter
  axes_fits zero f = f
  axes_fits (suc n) f = (add-fits binary64 _ _, add-fits binary64 _ _, add-fits binary64 _ _)

-- ---- the parts
-- whatever law the wheels have
by_back : (law : WheelLaw) (e w h : List Float) → Fine3 (wheel_by law e w h) → Fine3 e
by_back Once e w h f = f
by_back Published e w h f = ((add_finite binary64 _ _ f.0).0, (add_finite binary64 _ _ f.1).0, (add_finite binary64 _ _ f.2).0)

by_fits : (law : WheelLaw) (e w h : List Float) → Fit3 e → Fit3 (wheel_by law e w h)
by_fits Once e w h f = f
by_fits Published e w h f = (add-fits binary64 _ _, add-fits binary64 _ _, add-fits binary64 _ _)

module _ (law : WheelLaw) (t : List Float) (n : ℕ) (u w h tau : List Float) where
  abbrev less : List Float
  less = add3 tau (scale3 (axes t u zero3 n) minus_one)

  wheel_back : Fine3 (wheel_part law t n u w h tau) → FineN n u
  unfolding wheel_part
  wheel_back f = go (eqb n 0) (eqb→eq n 0) f
    where
      go : (c : Bool) → (T c → n ≡ 0) → Fine3 (cond c tau (wheel_by law less w h)) → FineN n u
      go true z f = rw (z tt) (below_none (λ i. T (finite (at u i))))
      go false z f = axes_back t u zero3 n (mul_finite binary64 _ _ (add_finite binary64 _ _ (by_back law less w h f).0).1).0

  wheel_fits : Fit3 tau → Fit3 (wheel_part law t n u w h tau)
  unfolding wheel_part
  wheel_fits f = go (eqb n 0)
    where
      go : (c : Bool) → Fit3 (cond c tau (wheel_by law less w h))
      go true = f
      go false = by_fits law less w h (add-fits binary64 _ _, add-fits binary64 _ _, add-fits binary64 _ _)

pyramid_back : (momentum : Float) (a u tau : List Float) → Fine3 (pyramid_part momentum a u tau) → Fine3 tau × (T (finite (at u 0)) × T (finite (at u 1)) × T (finite (at u 2)) × T (finite (at u 3)))
pyramid_back momentum a u tau f = search finites depth 8

gimbal_back : (c : Option CmgPyramid) (a u tau : List Float) → Fine3 (gimbal_part c a u tau) → Fine3 tau × FineN (gimbals c) u
gimbal_back None a u tau f = (f, below_none (λ i. T (finite (at u i))))
gimbal_back (Some p) a u tau f =
    let d = pyramid_back p.wheel_momentum_nms a u tau f in
    (d.0, below_four (λ i. T (finite (at u i))) d.1.0 d.1.1 d.1.2 d.1.3)

gimbal_fits : (c : Option CmgPyramid) (a u tau : List Float) → Fit3 tau → Fit3 (gimbal_part c a u tau)
gimbal_fits None a u tau f = f
gimbal_fits (Some p) a u tau f = (add-fits binary64 _ _, add-fits binary64 _ _, add-fits binary64 _ _)

-- ---- the whole row
module _ (r : Rig) (wheels thrusters u w h a : List Float) where
  abbrev nw : ℕ
  nw = r.wheel_count

  abbrev nt : ℕ
  nt = r.thruster_count

  abbrev part2 : List Float
  part2 = slice nw (nw + nt) u

  abbrev part3 : List Float
  part3 = slice (nw + nt) (length u) u

  abbrev after_wheels : List Float
  after_wheels = wheel_part r.law wheels nw (slice 0 nw u) w h zero3

  abbrev after_thrusters : List Float
  after_thrusters = axes thrusters part2 after_wheels nt

  parts_back : Fine3 (parts_torque r wheels thrusters u w h a) → FineN (nw + nt + gimbals r.cmgs) u
  unfolding parts_torque
  parts_back f i l = go (ltb i nw) (ltb i (nw + nt)) (ltb→lt i nw) (nltb→le i nw) (ltb→lt i (nw + nt)) (nltb→le i (nw + nt))
    where
      g : Fine3 after_thrusters × FineN (gimbals r.cmgs) part3
      g = gimbal_back r.cmgs a part3 after_thrusters f

      from : (v : List Float) (b j : ℕ) → at v j ≡ at u (b + j) → b + j ≡ i → T (finite (at v j)) → T (finite (at u i))
      from v b j p q t = rw (p ∙ ap (λ (k : ℕ). at u k) q) at t

      go : (b c : Bool) → (T b → i < nw) → (T (not b) → nw ≤ i) → (T c → i < nw + nt) → (T (not c) → nw + nt ≤ i) → T (finite (at u i))
      go true c p q r' s =
          let o : i < nw = p tt in
          from (slice 0 nw u) 0 i (at_slice 0 nw u i (omega arith)) (omega arith) (wheel_back r.law wheels nw (slice 0 nw u) w h zero3 (axes_start thrusters part2 after_wheels nt g.0) i o)
      go false true p q r' s =
          let o : nw ≤ i = q tt in
          let k : i < nw + nt = r' tt in
          from part2 nw (i - nw) (at_slice nw (nw + nt) u (i - nw) (omega arith)) (omega arith) (axes_back thrusters part2 after_wheels nt g.0.0 (i - nw) (omega arith))
      go false false p q r' s =
          let k : nw + nt ≤ i = s tt in
          from part3 (nw + nt) (i - (nw + nt)) (at_rest (nw + nt) u (i - (nw + nt))) (omega arith) (g.1 (i - (nw + nt)) (omega arith))

  parts_fits : Fit3 (parts_torque r wheels thrusters u w h a)
  unfolding parts_torque
  parts_fits = gimbal_fits r.cmgs a part3 after_thrusters (axes_fits thrusters part2 after_wheels nt (wheel_fits r.law wheels nw (slice 0 nw u) w h zero3 zero3_fits))
    where
      zero3_fits : Fit3 zero3
      zero3_fits = unfold fits of_bits in (tt, tt, tt)

  -- CONTROLS: where the torque of a row is finite, so is each of its controls
  pub row_back : Fine3 (row_torque r wheels thrusters u w h a) → FineN (width r (gimbals r.cmgs)) u
  unfolding row_torque width
  row_back f = go (bare r) f
    where
      go : (b : Bool) → Fine3 (cond b (at u 0 ∷ at u 1 ∷ at u 2 ∷ []) (parts_torque r wheels thrusters u w h a)) → FineN (cond b 3 (nw + nt + gimbals r.cmgs)) u
      go true f = below_three (λ i. T (finite (at u i))) f.0 f.1 f.2
      go false f = parts_back f

  -- f64 holds the torque of a row that it holds
  pub row_fits : FitN (width r (gimbals r.cmgs)) u → Fit3 (row_torque r wheels thrusters u w h a)
  unfolding row_torque width
  row_fits f = go (bare r) f
    where
      go : (b : Bool) → FitN (cond b 3 (nw + nt + gimbals r.cmgs)) u → Fit3 (cond b (at u 0 ∷ at u 1 ∷ at u 2 ∷ []) (parts_torque r wheels thrusters u w h a))
      go true f = (f 0 (omega arith), f 1 (omega arith), f 2 (omega arith))
      go false f = parts_fits

-- a wheel's control is one of the row's
pub wheel_control : (r : Rig) (g i : ℕ) → i < r.wheel_count → i < width r g
unfolding width
wheel_control r g i h = go (eqb r.wheel_count 0) (eqb r.thruster_count 0) (no_cmgs r.cmgs) (eqb→eq r.wheel_count 0)
  where
    go : (a b c : Bool) → (T a → r.wheel_count ≡ 0) → i < cond (a && b && c) 3 (r.wheel_count + r.thruster_count + g)
    go true b c e = absurd (no (e tt))
      where
        no : r.wheel_count ≡ 0 → ⊥
        no z = omega arith
    go false b c e = omega arith

-- ---- numbers stored one a turn
module _ (f : ℕ → Float → Float) (l : List Float) where
  stored_after : (n i : ℕ) → n ≤ i → at (stored f l n) i ≡ at l i
  unfolding iter
  stored_after zero i h = refl
  stored_after (suc n) i h = get_or-set_other (stored f l n) n i _ nan (λ (e : i ≡ n). omega arith) ∙ stored_after n i (omega arith)

  pub stored_at : (n : ℕ) → n ≤ length l → (i : ℕ) → i < n → at (stored f l n) i ≡ f i (at l i)
  unfolding iter
  stored_at zero k = below_none (λ i. at (stored f l zero) i ≡ f i (at l i))
  stored_at (suc n) k = below_next (λ i. at (stored f l (suc n)) i ≡ f i (at l i)) n
      (get_or-set_same (stored f l n) n _ nan (rw (stored_length f l n) k) ∙ ap (f n) (stored_after n n (omega arith)))
      (λ i h. get_or-set_other (stored f l n) n i _ nan (λ (e : i ≡ n). omega arith) ∙ stored_at n (omega arith) i h)

-- MOMENTA after a time dt: each wheel's own, plus its control times dt
module _ (n : ℕ) (hw u : List Float) (dt : Float) where
  pub momenta_length : length (momenta_next n hw u dt) ≡ length hw
  unfolding momenta_next
  momenta_length = stored_length (charged u dt) hw n

  pub momenta_at_law : n ≤ length hw → (i : ℕ) → i < n → at (momenta_next n hw u dt) i ≡ add binary64 (at hw i) (mul binary64 (at u i) dt)
  unfolding momenta_next
  momenta_at_law l i h = stored_at (charged u dt) hw n l i h

  -- past the wheels nothing changes
  pub momenta_after_law : (i : ℕ) → n ≤ i → at (momenta_next n hw u dt) i ≡ at hw i
  unfolding momenta_next
  momenta_after_law i h = stored_after (charged u dt) hw n i h
