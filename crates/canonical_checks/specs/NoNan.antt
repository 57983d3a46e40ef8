-- A problem that passes the checks has finite numbers alone: a NaN that is read is refused at the latest by the check of its field. Assumes nothing.
use Prim.Native.Nat.{ℕ, zero, suc, ◌+◌, ◌<◌}
use Rattle.std.proofs.Common.{arith, add-zero, sym, ◌∙◌, Option, Some, None, Ok, Err}
use Rattle.std.specs.Prelude.{◌≡◌, true, false, cond, not, ◌&&◌, ◌||◌, T, ltb, get_or, Float}
use Rattle.std.proofs.Math.Path.{refl}
use Rattle.std.proofs.Math.Bool.{Bool}
use mathlib.Core.List.{List, [], ◌∷◌, ◌++◌, map}
use Rattle.std.proofs.lemmas.Bool.{not-false}
use Rattle.std.specs.Float.{nan, inf, fin}
use Rattle.std.specs.Float.Ieee.{lt, of_bits, of_fields}
use Rattle.std.specs.Float.Ieee.Scale.{finite}
use Rattle.common.specs.Floats.{one, plus_zero}
use Rattle.common.specs.Iter.{iter}
use Rattle.common.specs.Lists.{at}
use Rattle.float.specs.Ops.{abs}
use Rattle.float_laws.specs.Finite.{finites}
use Rattle.float_laws.specs.Below.{below_next}
use Rattle.geom.specs.declared.Quat.{Quat}
use Rattle.geom.specs.Vec.{tensor, det3, minor, is_positive_value}
use Rattle.geom.specs.Quats.{norm3, normalized, finite_q, unit3, unit_by, least}
use Rattle.geom.specs.Tensors.{invert_spd, is_spd, symmetric, definite}
use Rattle.actuators.specs.declared.Wheel.{Wheel}
use Rattle.actuators.specs.declared.Thruster.{Thruster}
use Rattle.actuators.specs.declared.Actuators.{Actuators}
use Rattle.actuators.specs.declared.ActuatorMap.{ActuatorMap}
use Rattle.actuators.specs.Prepare.{Prepared}
use Rattle.actuators.specs.Maps.{wheel_at, thruster_at, unfilled}
use Rattle.actuators.specs.Prepare as Prepare
use Rattle.problem.specs.declared.Problem.{Problem}
use Rattle.problem.specs.Starts.{check_starts}
use Rattle.problem.specs.StartLaws.{starts_passed}
use Rattle.problem.specs.Problems as Problems
use Rattle.text.specs.Bytes.{bytes}
use Rattle.canonical_laws.specs.Pieces.{Piece, lit, num, non, Entry, wheel, thruster, pyramid, firsts, nums, limit, line, weights, entry, entries, gyros, no_wheel, no_thruster, thrusters_of, momenta_of, actuators, pieces}
use Rattle.canonical_laws.specs.Positions.{both}
use Rattle.actuators.specs.declared.CmgPyramid.{CmgPyramid}
use Rattle.common.specs.Refusals.{Fate, refusal, going, fate_of}
use Rattle.std.specs.Prelude.{Result}
use Rattle.common.specs.declared.Refusal.{Refusal}

-- every float is finite
abbrev pub Sane : List Piece → Type 0
Sane [] = Unit {0}
Sane (lit w ∷ ps) = Sane ps
Sane (num x ∷ ps) = T (finite x) × Sane ps
Sane (non ∷ ps) = Sane ps

join : (ps qs : List Piece) → Sane ps → Sane qs → Sane (ps ++ qs)
join [] qs h k = k
join (lit w ∷ ps) qs h k = join ps qs h k
join (num x ∷ ps) qs h k = (h.0, join ps qs h.1 k)
join (non ∷ ps) qs h k = join ps qs h k

-- ---- tests
yes_is : (b : Bool) → b ≡ true → T b
yes_is b e = rw e tt

neither : (a b : Bool) → (a || b) ≡ false → (a ≡ false) × (b ≡ false)
neither true b e = let z : ◌≡◌ {A = ℕ} 0 1 = cc in absurd (omega arith)
neither false b e = (refl, e)

denied : (b : Bool) → not b ≡ false → T b
denied true e = tt
denied false e = let z : ◌≡◌ {A = ℕ} 0 1 = cc in absurd (omega arith)

never : {n place : ℕ} {A : Type 0} → Err (refusal n place) ≡ going → A
never e = let z : ◌≡◌ {A = ℕ} 0 1 = cc in absurd (omega arith)

positive_finite : (x : Float) → is_positive_value x ≡ true → T (finite x)
positive_finite x h = yes_is (finite x) (both (finite x) (lt plus_zero x) h).0

inside : (x : Float) → Prepare.outside x ≡ false → T (finite x)
unfolding Prepare.outside
inside x e = positive_finite x (not-false (is_positive_value x) e)

-- ---- actuators

unit_finite : (place : ℕ) (v : List Float) (f : Float → Float → Float → ActuatorMap) → fate_of (Prepare.placed place (unit3 v) f) ≡ going → T (finite (norm3 v))
unfolding unit_by
unit_finite place v f h = go (lt (norm3 v) least || not (finite (norm3 v))) refl
  where
    go : (b : Bool) → (lt (norm3 v) least || not (finite (norm3 v))) ≡ b → T (finite (norm3 v))
    go true e = never (rw e at h)
    go false e = denied (finite (norm3 v)) (neither (lt (norm3 v) least) (not (finite (norm3 v))) e).1

axis_finite : (v : List Float) → T (finite (norm3 v)) → T (finite (at v 0)) × T (finite (at v 1)) × T (finite (at v 2))
unfolding norm3
axis_finite v t = (search finites depth 8, search finites depth 8, search finites depth 8)

checked : (out : Bool) (place : ℕ) (v : List Float) (f : Float → Float → Float → ActuatorMap) → fate_of (Prepare.checked out place (unit3 v) f) ≡ going → (out ≡ false) × T (finite (norm3 v))
checked true place v f h = never h
checked false place v f h = (refl, unit_finite place v f h)

onward : {A : Type 0} (p : Prepared) (next : ActuatorMap → Prepared) → fate_of (Prepare.onward p next) ≡ going → ((m : ActuatorMap) → fate_of (next m) ≡ going → A) → (fate_of p ≡ going) × A
onward (Ok m) next h f = (refl, f m h)
onward (Err why) next h f = never h

limit_sane : (l : Option Float) → Prepare.power_outside l ≡ false → (rest : List Piece) → Sane rest → Sane (limit l ∷ rest)
limit_sane None e rest h = h
limit_sane (Some x) e rest h = (inside x e, h)

wheel_sane : (w : Wheel) → Prepare.wheel_outside w ≡ false → T (finite (norm3 w.axis)) → Sane (entry (wheel w))
unfolding Prepare.wheel_outside
wheel_sane w e t =
    let a = axis_finite w.axis t in
    let b = neither (Prepare.outside w.max_torque_nm || Prepare.outside w.max_momentum_nms) (Prepare.power_outside w.max_power_w) e in
    let c = neither (Prepare.outside w.max_torque_nm) (Prepare.outside w.max_momentum_nms) b.0 in
    (a.0, (a.1, (a.2, (inside _ c.0, (inside _ c.1, limit_sane w.max_power_w b.1 (lit (bytes ")") ∷ []) tt)))))

wheels_sane : (ws : List Wheel) (p : Prepared) (n : ℕ) → fate_of (iter (Prepare.wheel_turn ws) p n) ≡ going → (fate_of p ≡ going) × ((k : ℕ) → k < n → Sane (entry (wheel (wheel_at ws k))))
unfolding iter Prepare.wheel_next Prepare.wheel_checked
wheels_sane ws p zero h = (h, λ k l. absurd (omega arith))
wheels_sane ws p (suc n) h =
    let w = wheel_at ws n in
    let o = onward (iter (Prepare.wheel_turn ws) p n) (λ m. Prepare.wheel_checked m n w) h (λ m g. checked (Prepare.wheel_outside w) n w.axis (Prepare.with_wheel m n w) g) in
    let r = wheels_sane ws p n o.0 in
    (r.0, below_next (λ k. Sane (entry (wheel (wheel_at ws k)))) n (wheel_sane w o.1.0 o.1.1) r.1)

thruster_sane : (t : Thruster) → Prepare.outside t.max_torque_nm ≡ false → T (finite (norm3 t.torque_axis)) → Sane (entry (thruster t))
thruster_sane t e f = let a = axis_finite t.torque_axis f in (a.0, (a.1, (a.2, (inside _ e, tt))))

thrusters_sane : (ts : List Thruster) (p : Prepared) (n : ℕ) → fate_of (iter (Prepare.thruster_turn ts) p n) ≡ going → (fate_of p ≡ going) × ((k : ℕ) → k < n → Sane (entry (thruster (thruster_at ts k))))
unfolding iter Prepare.thruster_next Prepare.thruster_checked
thrusters_sane ts p zero h = (h, λ k l. absurd (omega arith))
thrusters_sane ts p (suc n) h =
    let t = thruster_at ts n in
    let o = onward (iter (Prepare.thruster_turn ts) p n) (λ m. Prepare.thruster_checked m n t) h (λ m g. checked (Prepare.outside t.max_torque_nm) (8 + n) t.torque_axis (Prepare.with_thruster m n t) g) in
    let r = thrusters_sane ts p n o.0 in
    (r.0, below_next (λ k. Sane (entry (thruster (thruster_at ts k)))) n (thruster_sane t o.1.0 o.1.1) r.1)

gyros_sane : (c : Option CmgPyramid) (m : ActuatorMap) (rest : List Piece) → fate_of (Prepare.cmgs_checked c m) ≡ going → Sane rest → Sane (entries (gyros c) rest)
unfolding Prepare.pyramid_outside
gyros_sane None m rest h k = k
gyros_sane (Some p) m rest h k = go (Prepare.pyramid_outside p) refl
  where
    go : (b : Bool) → Prepare.pyramid_outside p ≡ b → Sane (entries (pyramid p ∷ []) rest)
    go true e = never (rw e at h)
    go false e =
        let n₁ = neither _ (Prepare.outside p.singularity_eps) e in
        let n₂ = neither _ (Prepare.outside p.max_gimbal_rate_rad_s) n₁.0 in
        let n₃ = neither _ (Prepare.outside p.wheel_momentum_nms) n₂.0 in
        let n₄ = neither (Prepare.outside p.skew_rad) _ n₃.0 in
        (inside _ n₄.0, (inside _ n₃.1, (inside _ n₂.1, (inside _ n₁.1, k))))

listed_sane : {A : Type 0} (d : A) (c : A → Entry) (n k : ℕ) (v : List A) (es : List Entry) (rest : List Piece) → ((i : ℕ) → i < n → Sane (entry (c (get_or v (k + i) d)))) → Sane (entries es rest) → Sane (entries (map c (firsts d k n v) ++ es) rest)
listed_sane d c zero k v es rest h s = s
listed_sane d c (suc n) k v es rest h s =
    join (entry (c (get_or v k d))) (entries (map c (firsts d (suc k) n v) ++ es) rest) (rw add-zero at (h 0 (omega arith)))
    (listed_sane d c n (suc k) v es rest (λ i l. let e : k + suc i ≡ suc k + i = omega arith in rw e at (h (suc i) (omega arith))) s)

shifted : {A : Type 0} (P : A → Type 0) (v : List A) (d : A) (n : ℕ) → ((k : ℕ) → k < n → P (get_or v k d)) → (i : ℕ) → i < n → P (get_or v (0 + i) d)
shifted P v d n h i l = let e : 0 + i ≡ i = omega arith in rw e (h i l)

actuators_sane : (a : Actuators) → fate_of (Prepare.filled a) ≡ going → Sane (actuators a)
unfolding Prepare.filled Prepare.cmgs_next Prepare.wheels_checked Prepare.thrusters_checked actuators
actuators_sane a h =
    let w = iter (Prepare.wheel_turn a.wheels) (Prepare.so_far (unfilled a.wheel_count a.thruster_count a.cmgs)) a.wheel_count in
    let t = iter (Prepare.thruster_turn a.thrusters) w a.thruster_count in
    let end : List Piece = lit (bytes "))\n") ∷ [] in
    let o = onward t (Prepare.cmgs_checked a.cmgs) h (λ m g. gyros_sane a.cmgs m end g tt) in
    let ts = thrusters_sane a.thrusters w a.thruster_count o.0 in
    let ws = wheels_sane a.wheels (Prepare.so_far (unfilled a.wheel_count a.thruster_count a.cmgs)) a.wheel_count ts.0 in
    listed_sane no_wheel wheel a.wheel_count 0 a.wheels (map thruster (thrusters_of a) ++ gyros a.cmgs) end (shifted (λ x. Sane (entry (wheel x))) a.wheels no_wheel a.wheel_count ws.1)
    (listed_sane no_thruster thruster a.thruster_count 0 a.thrusters (gyros a.cmgs) end (shifted (λ x. Sane (entry (thruster x))) a.thrusters no_thruster a.thruster_count ts.1)
    o.1)

prepared_sane : (a : Actuators) → fate_of (Prepare.prepare a) ≡ going → Sane (actuators a)
unfolding Prepare.prepare
prepared_sane a h = go (ltb 8 a.wheel_count) (ltb 12 a.thruster_count) refl refl
  where
    go : (b c : Bool) → ltb 8 a.wheel_count ≡ b → ltb 12 a.thruster_count ≡ c → Sane (actuators a)
    go true c e f = never (rw e at h)
    go false true e f = never (rw (e, f) at h)
    go false false e f = actuators_sane a (rw (e, f) at h)

-- ---- fields

det_finite : (v : List Float) → T (finite (det3 (tensor v))) → T (finite (at v 0)) × T (finite (at v 1)) × T (finite (at v 2)) × T (finite (at v 3)) × T (finite (at v 4)) × T (finite (at v 5)) × T (finite (at v 6)) × T (finite (at v 7)) × T (finite (at v 8))
det_finite v t = (search finites depth 8, search finites depth 8, search finites depth 8, search finites depth 8, search finites depth 8, search finites depth 8, search finites depth 8, search finites depth 8, search finites depth 8)

inertia_finite : (j : List (List Float)) → fate_of (invert_spd j) ≡ going → T (finite (det3 j))
unfolding invert_spd is_spd
inertia_finite j h = go (symmetric j && definite j) refl
  where
    go : (b : Bool) → (symmetric j && definite j) ≡ b → T (finite (det3 j))
    go true e =
        let d = (both (symmetric j) (definite j) e).1 in
        let a = at (get_or j 0 []) 0 in
        let n = minor (at (get_or j 0 []) 0) (at (get_or j 1 []) 1) (at (get_or j 0 []) 1) (at (get_or j 1 []) 0) in
        let m = (both (is_positive_value a) (is_positive_value n && is_positive_value (det3 j)) d).1 in
        let p = (both (is_positive_value n) (is_positive_value (det3 j)) m).1 in
        positive_finite (det3 j) p
    go false e = never (rw e at h)

abbrev FiniteQ : Quat → Type 0
FiniteQ q = T (finite q.w) × T (finite q.x) × T (finite q.y) × T (finite q.z)

attitude : (tol : Float) (q r : Quat) → normalized tol q ≡ Some r → FiniteQ q
unfolding normalized
attitude tol q r h = go (finite_q q) refl
  where
    go : (b : Bool) → finite_q q ≡ b → FiniteQ q
    go true e =
        let a = both (finite q.w) (finite q.x && (finite q.y && finite q.z)) e in
        let b = both (finite q.x) (finite q.y && finite q.z) a.1 in
        let c = both (finite q.y) (finite q.z) b.1 in
        (yes_is (finite q.w) a.0, yes_is (finite q.x) b.0, yes_is (finite q.y) c.0, yes_is (finite q.z) c.1)
    go false e = let w : None ≡ Some r = rw e at h in let z : ◌≡◌ {A = ℕ} 0 1 = cc in absurd (omega arith)

slew_sane : (l : Option Float) (rest : List Piece) → Problems.limit_fits l ≡ true → Sane rest → Sane (limit l ∷ rest)
slew_sane None rest h k = k
slew_sane (Some x) rest h k = (positive_finite x h, k)

-- between 0 and 1 is finite
tolerance_finite : (x : Float) → Problems.tolerance_fits x ≡ true → T (finite x)
unfolding lt of_bits of_fields
tolerance_finite x h = by x (both (lt plus_zero x) (lt x one) h).0 (both (lt plus_zero x) (lt x one) h).1
  where
    by : (x : Float) → lt plus_zero x ≡ true → lt x one ≡ true → T (finite x)
    by nan a b = let z : ◌≡◌ {A = ℕ} 0 1 = cc in absurd (omega arith)
    by (inf true) a b = let z : ◌≡◌ {A = ℕ} 0 1 = cc in absurd (omega arith)
    by (inf false) a b = let z : ◌≡◌ {A = ℕ} 0 1 = cc in absurd (omega arith)
    by (fin true m e) a b = tt
    by (fin false m e) a b = tt

weights_finite : (x : Float) → Problems.weight_fits x ≡ true → T (finite x)
weights_finite x h = yes_is (finite x) (both (finite x) (not (lt x plus_zero)) h).0

nums_sane : (n k : ℕ) (v : List Float) (rest : List Piece) → ((i : ℕ) → i < n → T (finite (get_or v (k + i) nan))) → Sane rest → Sane (nums (firsts nan k n v) rest)
nums_sane zero k v rest h s = s
nums_sane (suc n) k v rest h s = (rw add-zero at (h 0 (omega arith)), nums_sane n (suc k) v rest (λ i l. let e : k + suc i ≡ suc k + i = omega arith in rw e at (h (suc i) (omega arith))) s)

-- from the momenta on
abbrev ending : Problem → List Piece
ending p = lit (bytes " (momenta") ∷ nums (momenta_of p.momenta) (lit (bytes ")\n") ∷ actuators p.actuators)

starts_sane : (p : Problem) (n : ℕ) (limits : List Float) → check_starts n limits p.momenta ≡ going → Sane (actuators p.actuators) → Sane (ending p)
starts_sane p n limits h a =
    let s = starts_passed n limits p.momenta h in
    nums_sane p.momenta.count 0 p.momenta.at (lit (bytes ")\n") ∷ actuators p.actuators)
    (λ i l.
    let e : 0 + i ≡ i = omega arith in
    let f = s.fit i (omega (arith, l, s.count)) in
    rw e (yes_is (finite (at p.momenta.at i)) (both (finite (at p.momenta.at i)) (not (lt (at limits i) (abs (at p.momenta.at i)))) f).0))
    a

module _ (p : Problem) where
  abbrev Checked : Type 0
  Checked = (Problems.numbers_fit p ≡ true) × (FiniteQ p.q0) × (FiniteQ p.qf) × (T (finite (det3 (tensor p.inertia)))) × (Sane (ending p))

  sane : Checked → Sane (pieces p)
  unfolding pieces Problems.numbers_fit Problems.weights_fit
  sane c =
      let q = c.1 in
      let r = c.2 in
      let d = det_finite p.inertia c.3 in
      let T₁ = Problems.tolerance_fits p.norm_tolerance in
      let T₂ = Problems.tolerance_fits p.tie_tolerance in
      let S = Problems.limit_fits p.slew in
      let A : ℕ → Bool = λ k. is_positive_value (at p.torque_limit k) in
      let w = p.weights in
      let f₁ = Problems.weight_fits w.time in
      let f₂ = Problems.weight_fits w.control in
      let f₃ = Problems.weight_fits w.energy in
      let f₄ = Problems.weight_fits w.pointing in
      let f₅ = Problems.weight_fits w.smoothness in
      let f₆ = Problems.weight_fits w.momentum in
      let l = A 0 && A 1 && A 2 in
      let f = f₁ && f₂ && f₃ && f₄ && f₅ && f₆ in
      let n₁ = both (l && S && f && T₁) T₂ c.0 in
      let n₂ = both (l && S && f) T₁ n₁.0 in
      let n₃ = both (l && S) f n₂.0 in
      let n₄ = both l S n₃.0 in
      let l₁ = both (A 0 && A 1) (A 2) n₄.0 in
      let l₂ = both (A 0) (A 1) l₁.0 in
      let w₁ = both (f₁ && f₂ && f₃ && f₄ && f₅) f₆ n₃.1 in
      let w₂ = both (f₁ && f₂ && f₃ && f₄) f₅ w₁.0 in
      let w₃ = both (f₁ && f₂ && f₃) f₄ w₂.0 in
      let w₄ = both (f₁ && f₂) f₃ w₃.0 in
      let w₅ = both f₁ f₂ w₄.0 in
      let after : List Piece = line (bytes " (weights") (weights p.weights) (bytes ")\n") ++ line (bytes " (tolerance") (p.norm_tolerance ∷ p.tie_tolerance ∷ []) (bytes ")\n") ++ ending p in
      let numbers : Sane after =
      (weights_finite w.time w₅.0, (weights_finite w.control w₅.1, (weights_finite w.energy w₄.1, (weights_finite w.pointing w₃.1, (weights_finite w.smoothness w₂.1, (weights_finite w.momentum w₁.1, (tolerance_finite p.norm_tolerance n₂.1, (tolerance_finite p.tie_tolerance n₁.1, c.4)))))))) in
      let slewed : Sane (limit p.slew ∷ lit (bytes ")\n") ∷ after) = slew_sane p.slew (lit (bytes ")\n") ∷ after) n₄.1 numbers in
      (q.0, (q.1, (q.2, (q.3, (r.0, (r.1, (r.2, (r.3, (d.0, (d.1, (d.2, (d.3, (d.4, (d.5, (d.6, (d.7, (d.8, (positive_finite (at p.torque_limit 0) l₂.0, (positive_finite (at p.torque_limit 1) l₂.1, (positive_finite (at p.torque_limit 2) l₁.1, slewed))))))))))))))))))))

  -- each check in turn
  inverted : (i : Result (List Float) Refusal) (m : ActuatorMap) (q0 qf : Quat) → (Problems.inverted_by i p m q0 qf).fate ≡ going → fate_of i ≡ going
  inverted (Err why) m q0 qf h = never h
  inverted (Ok v) m q0 qf h = refl

  final : (n : Option Quat) (m : ActuatorMap) (q0 : Quat) → normalized p.norm_tolerance p.qf ≡ n → (Problems.final_by n p m q0).fate ≡ going → (FiniteQ p.qf) × (T (finite (det3 (tensor p.inertia))))
  unfolding Problems.with_attitudes
  final None m q0 e h = never h
  final (Some qf) m q0 e h = (attitude _ p.qf qf e, inertia_finite _ (inverted _ m q0 qf h))

  begun : (n : Option Quat) (m : ActuatorMap) → normalized p.norm_tolerance p.q0 ≡ n → (Problems.start_by n p m).fate ≡ going → (FiniteQ p.q0) × (FiniteQ p.qf) × (T (finite (det3 (tensor p.inertia))))
  begun None m e h = never h
  begun (Some q0) m e h = let f = final (normalized p.norm_tolerance p.qf) m q0 refl h in (attitude _ p.q0 q0 e, f.0, f.1)

  abbrev Fields : Type 0
  Fields = (FiniteQ p.q0) × (FiniteQ p.qf) × (T (finite (det3 (tensor p.inertia))))

  started : (f : Fate) (m : ActuatorMap) → (Problems.momenta_by f p m).fate ≡ going → (f ≡ going) × Fields
  unfolding Problems.with_starts
  started (Err why) m h = never h
  started (Ok _) m h = (refl, begun (normalized p.norm_tolerance p.q0) m refl h)

  numbers : (b : Bool) (f : Fate) (m : ActuatorMap) → (cond b (Problems.momenta_by f p m) (Problems.refused 4 0)).fate ≡ going → (b ≡ true) × (f ≡ going) × Fields
  numbers true f m h = let g = started f m h in (refl, g.0, g.1)
  numbers false f m h = never h

  prepared : (f : Prepared) → Prepare.prepare p.actuators ≡ f → (Problems.prepared_by f p).fate ≡ going → Sane (pieces p)
  unfolding Problems.with_map
  prepared (Err why) e h = never h
  prepared (Ok m) e h =
      let g = numbers (Problems.numbers_fit p) (check_starts m.wheel_count m.wheel_momenta p.momenta) m h in
      sane (g.0, g.2.0, g.2.1, g.2.2, starts_sane p m.wheel_count m.wheel_momenta g.1 (prepared_sane p.actuators (rw e)))

-- 4: a problem that passes the checks has finite numbers alone, and so no NaN
pub passed_finite : (p : Problem) → (Problems.check p).fate ≡ going → Sane (pieces p)
unfolding Problems.check
passed_finite p h = prepared p (Prepare.prepare p.actuators) refl h
