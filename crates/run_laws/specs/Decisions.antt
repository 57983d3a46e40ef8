-- A projected decision: each of its controls is clamped to its limit, and f64 holds it. Assumes nothing.
use Rattle.std.specs.Prelude.{◌≡◌, Bool, ◌&&◌, List, [], ◌∷◌, ◌++◌, ℕ, zero, suc, ◌+◌, ◌-◌, ◌*◌, ◌<◌, ◌≤◌, T, ltb, set, length, take, drop, Float}
use Rattle.std.proofs.Math.Path.{refl}
use Rattle.std.proofs.Common.{sym, ap, ◌∙◌, suc-mul, le→leb, ltb→lt, nltb→le, length-append, length-drop, length-set, length-take-le, get_or-append-add, get_or-take, get_or-drop, get_or-set_same, get_or-set_other}
use Rattle.std.proofs.Math.Bool.{true, false, cond}
use native.Mathlib.Omega.{arith}
use Rattle.std.proofs.Math.Dec.{leb}
use Rattle.std.specs.Float.{nan, binary64}
use Rattle.std.specs.Float.Ieee.{neg, le, fits, of_bits}
use Rattle.std.specs.Float.Ieee.Bits.{is_true}
use Rattle.std.specs.Float.Ieee.Fits.{and_i, neg-fits}
use Rattle.common.specs.Iter.{iter}
use Rattle.common.specs.IterLaws.{row_end}
use Rattle.common.specs.Lists.{at, pasted}
use Rattle.float.specs.Ops.{number, abs, clamp}
use Rattle.float_laws.specs.Below.{below_none, below_next, below_turns}
use Rattle.float_laws.specs.Clamp.{test, clamp_fits}
use Rattle.float_laws.specs.Limits.{Limit, control_within}
use Rattle.float_laws.specs.Numbers.{clamp_n}
use Rattle.actuators.specs.Maps.{is_sized, is_empty, control_dim, gimbals}
use Rattle.actuators.specs.declared.ActuatorMap.{ActuatorMap}
use Rattle.control_rows.specs.Parts.{bare, width}
use Rattle.control_limits.specs.Limits.{limit_of, projected}
use Rattle.controls.specs.Controls as Controls
use Rattle.controls.specs.Controls.{project_controls}
use Rattle.controls.specs.Controls.{rig_of}
use Rattle.forward.specs.Decisions.{row_of, shortest, longest, project_turn, project_decision}
use Rattle.run_laws.specs.Torques.{at_slice}
use Rattle.run_laws.specs.Prepared.{MapOk}
use Rattle.run_laws.specs.Bounds.{row_limit_law, projected_at, projected_length}

-- ---- a part put back into a list
front : (xs ys : List Float) (i : ℕ) → i < length xs → at (xs ++ ys) i ≡ at xs i
front [] ys i h = below_none (λ i. at ys i ≡ nan) i h
front (x ∷ xs) ys zero h = refl
front (x ∷ xs) ys (suc i) h = front xs ys i (omega arith)

module _ (z u : List Float) (a c : ℕ) (l : a + c ≤ length z) (e : length u ≡ c) where
  abbrev rest : List Float
  rest = drop (a + c - a) (drop a z)

  cut : length (take a z) ≡ a
  cut = length-take-le a z (omega arith)

  pub paste_low : (i : ℕ) → i < a → at (pasted z a (a + c) u) i ≡ at z i
  paste_low i h = front (take a z) (u ++ rest) i (rw cut h) ∙ get_or-take a z i nan h

  paste_in : (i : ℕ) → at (pasted z a (a + c) u) (a + i) ≡ at (u ++ rest) i
  paste_in i = ap (λ (n : ℕ). at (pasted z a (a + c) u) (n + i)) (sym cut) ∙ get_or-append-add (take a z) (u ++ rest) i nan

  pub paste_mid : (i : ℕ) → i < c → at (pasted z a (a + c) u) (a + i) ≡ at u i
  paste_mid i h = paste_in i ∙ front u rest i (rw e h)

  pub paste_high : (i : ℕ) → a + c ≤ i → at (pasted z a (a + c) u) i ≡ at z i
  paste_high i h =
      let j : ℕ = i - (a + c) in
      let p : i ≡ a + (c + j) = omega arith in
      let q : a + (a + c - a + j) ≡ i = omega arith in
      ap (at (pasted z a (a + c) u)) p
      ∙ (paste_in (c + j)
      ∙ (ap (λ (n : ℕ). at (u ++ rest) (n + j)) (sym e)
      ∙ (get_or-append-add u rest j nan
      ∙ (get_or-drop (a + c - a) (drop a z) j nan ∙ (get_or-drop a z (a + c - a + j) nan ∙ ap (at z) q)))))

  pub paste_length : length (pasted z a (a + c) u) ≡ length z
  paste_length = sum (length-append (take a z) (u ++ rest)) cut (length-append u rest) (length-drop (a + c - a) (drop a z)) (length-drop a z)
    where
      sum : length (take a z ++ (u ++ rest)) ≡ length (take a z) + length (u ++ rest) → length (take a z) ≡ a → length (u ++ rest) ≡ length u + length rest → length rest ≡ length (drop a z) - (a + c - a) → length (drop a z) ≡ length z - a → length (pasted z a (a + c) u) ≡ length z
      sum f g h k m = omega (arith, l, e)

  -- what holds of the list and of the part holds of the whole
  pub paste_all : (P : Float → Type 0) → ((i : ℕ) → P (at z i)) → ((i : ℕ) → i < c → P (at u i)) → (i : ℕ) → P (at (pasted z a (a + c) u) i)
  paste_all P Z U i = test (ltb i a) (λ t. rw (paste_low i (ltb→lt i a t)) (Z i)) (λ t. let h = nltb→le i a t in
      test (ltb i (a + c)) (λ s. let k = ltb→lt i (a + c) s in let q : a + (i - a) ≡ i = omega arith in rw (← q) (rw (paste_mid (i - a) (omega arith)) (U (i - a) (omega arith)))) (λ s. rw (paste_high i (nltb→le i (a + c) s)) (Z i)))

-- ---- a projected row
module _ (m : ActuatorMap) (M : MapOk m) (box : List Float) (L : (i : ℕ) → i < 3 → Limit (at box i)) where
  abbrev c : ℕ
  c = control_dim m

  abbrev most : ℕ → Float
  most = limit_of (rig_of m) m.wheel_torques m.thruster_torques box

  abbrev held : ℕ → Float → Float
  held i x = clamp (neg (most i)) (most i) x

  -- the width of a prepared map's row is that of its parts
  dim_is : control_dim m ≡ width (rig_of m) (gimbals m.cmgs)
  unfolding control_dim is_sized is_empty width
  dim_is = rw (is_true (leb m.wheel_count 8 && leb m.thruster_count 12) (and_i (leb m.wheel_count 8) (leb m.thruster_count 12) (le→leb m.wheel_count 8 M.wheels) (le→leb m.thruster_count 12 M.thrusters))) refl

  pub control_limit_law : (i : ℕ) → i < c → Limit (most i)
  control_limit_law i h = row_limit_law m M box L i (rw dim_is at h)

  narrower : width (rig_of m) 0 ≤ width (rig_of m) (gimbals m.cmgs)
  unfolding width
  narrower = go (bare (rig_of m))
    where
      go : (b : Bool) → cond b 3 (m.wheel_count + m.thruster_count + 0) ≤ cond b 3 (m.wheel_count + m.thruster_count + gimbals m.cmgs)
      go true = omega arith
      go false = omega arith

  row_fits : (u : List Float) → length u ≡ c → T (Controls.row_fits_value (rig_of m) 0 (length u))
  unfolding Controls.row_fits_value
  row_fits u e =
      let d = dim_is in
      let n = narrower in
      and_i (leb m.wheel_count 8 && leb m.thruster_count 12) (leb (width (rig_of m) 0) (length u))
      (and_i (leb m.wheel_count 8) (leb m.thruster_count 12) (le→leb m.wheel_count 8 M.wheels) (le→leb m.thruster_count 12 M.thrusters))
      (le→leb (width (rig_of m) 0) (length u) (omega arith))

  row_is : (u : List Float) → length u ≡ c → project_controls m box u ≡ projected (rig_of m) m.wheel_torques m.thruster_torques box u
  unfolding project_controls
  row_is u e = rw (is_true (Controls.row_fits_value (rig_of m) 0 (length u)) (row_fits u e)) refl

  row_long : (u : List Float) → length u ≡ c → length (project_controls m box u) ≡ c
  row_long u e = ap length (row_is u e) ∙ (projected_length (rig_of m) m.wheel_torques m.thruster_torques box u ∙ e)

  row_at : (u : List Float) → length u ≡ c → (i : ℕ) → i < c → at (project_controls m box u) i ≡ held i (at u i)
  row_at u e i h = rw (row_is u e) (projected_at (rig_of m) m.wheel_torques m.thruster_torques box u i (go (ltb (width (rig_of m) (gimbals m.cmgs)) (length u))))
    where
      go : (b : Bool) → i < cond b (width (rig_of m) (gimbals m.cmgs)) (length u)
      go true = rw dim_is at h
      go false = rw e h

  held_fits : (i : ℕ) → i < c → (x : Float) → T (fits binary64 x) → T (fits binary64 (held i x))
  held_fits i h x g = let l = (control_limit_law i h).fit in clamp_fits binary64 (neg (most i)) (most i) x (neg-fits binary64 (most i) l) l g

  -- ---- the 16 rows
  module _ (z : List Float) (long : 1 + 16 * c ≤ length z) where
    -- after n rows
    pub record Done (n : ℕ) (l : List Float) : Type 0 where
      pub lasts : length l ≡ length z
      pub before : at l 0 ≡ at z 0
      pub after : (j : ℕ) → 1 + n * c ≤ j → at l j ≡ at z j
      pub rows : (k : ℕ) → k < n → (i : ℕ) → i < c → at l (1 + k * c + i) ≡ held i (at z (1 + k * c + i))
      pub fit : ((i : ℕ) → T (fits binary64 (at z i))) → (j : ℕ) → T (fits binary64 (at l j))

    turn : (k : ℕ) → k < 16 → (l : List Float) → Done k l → Done (suc k) (project_turn m box k l)
    turn k h l D = record {
      lasts = paste_length l p a c room lp ∙ D.lasts;
      before = paste_low l p a c room lp 0 (omega arith) ∙ D.before;
      after = λ j q. let s = suc-mul k c in paste_high l p a c room lp j (omega arith) ∙ D.after j (omega arith);
      rows = below_next (λ n. (i : ℕ) → i < c → at l2 (1 + n * c + i) ≡ held i (at z (1 + n * c + i))) k
          (λ i q. paste_mid l p a c room lp i q ∙ (row_at u lu i q ∙ ap (held i) (at_slice a (a + c) l i (omega arith) ∙ D.after (a + i) (omega arith))))
          (λ n q i r. let s = row_end n k c q in paste_low l p a c room lp (1 + n * c + i) (omega arith) ∙ D.rows n q i r);
      fit = λ F. paste_all l p a c room lp (λ x. T (fits binary64 x)) (D.fit F) (λ i q. rw (row_at u lu i q) (held_fits i q (at u i) (rw (at_slice a (a + c) l i (omega arith)) (D.fit F (a + i)))));
    }
      where
        a : ℕ
        a = 1 + k * c

        u : List Float
        u = row_of c l k

        p : List Float
        p = project_controls m box u

        l2 : List Float
        l2 = pasted l a (a + c) p

        room : a + c ≤ length l
        room = let s = row_end k 16 c h in omega (arith, long, D.lasts)

        lu : length u ≡ c
        lu = let d = length-drop a l in length-take-le (a + c - a) (drop a l) (omega (arith, room)) ∙ (omega arith)

        lp : length p ≡ c
        lp = row_long u lu

    -- all 16
    pub all_done : Done 16 (iter (project_turn m box) z 16)
    all_done = below_turns Done (project_turn m box) z 16 turn (record { lasts = refl; before = refl; after = λ j q. refl; rows = below_none _; fit = λ F. F })

-- PROJECTED: f64 holds a projected decision, and each of its controls is clamped to its limit
pub record Projected (m : ActuatorMap) (box z : List Float) : Type 0 where
  pub fit : (i : ℕ) → T (fits binary64 (at z i))
  pub from : ℕ → ℕ → Float
  pub from_fit : (k i : ℕ) → T (fits binary64 (from k i))
  pub is : (k : ℕ) → k < 16 → (i : ℕ) → i < control_dim m
      → at z (1 + k * control_dim m + i) ≡ clamp (neg (limit_of (rig_of m) m.wheel_torques m.thruster_torques box i)) (limit_of (rig_of m) m.wheel_torques m.thruster_torques box i) (from k i)

held_duration : (x : Float) → T (fits binary64 x) → T (fits binary64 (clamp shortest longest x))
held_duration x g = clamp_fits binary64 shortest longest x (unfold fits of_bits in tt) (unfold fits of_bits in tt) g

pub projected_is : (m : ActuatorMap) → MapOk m → (box : List Float) → ((i : ℕ) → i < 3 → Limit (at box i)) → (z : List Float) → 1 + 16 * control_dim m ≤ length z → ((i : ℕ) → T (fits binary64 (at z i))) → Projected m box (project_decision m box z)
unfolding project_decision
projected_is m M box L z long F = record {
  fit = D.fit F0;
  from = λ k i. at z0 (1 + k * control_dim m + i);
  from_fit = λ k i. F0 (1 + k * control_dim m + i);
  is = D.rows;
}
  where
    d : Float
    d = clamp shortest longest (at z 0)

    z0 : List Float
    z0 = set z 0 d

    first : 0 < length z
    first = omega (arith, long)

    F0 : (i : ℕ) → T (fits binary64 (at z0 i))
    F0 zero = rw (get_or-set_same z 0 d nan first) (held_duration (at z 0) (F 0))
    F0 (suc i) = rw (get_or-set_other z 0 (suc i) d nan (λ (e : suc i ≡ 0). omega arith)) (F (suc i))

    D : Done m M box L z0 (rw (length-set z 0 d) long) 16 (iter (project_turn m box) z0 16)
    D = all_done m M box L z0 (rw (length-set z 0 d) long)

-- CONTROLS: in a projected decision a control that is no NaN is at most its limit in size
pub control_small : (m : ActuatorMap) (M : MapOk m) (box : List Float) (L : (i : ℕ) → i < 3 → Limit (at box i)) (z : List Float) → Projected m box z → (k : ℕ) → k < 16 → (i : ℕ) → i < control_dim m → T (number (at z (1 + k * control_dim m + i)))
    → T (le (abs (at z (1 + k * control_dim m + i))) (limit_of (rig_of m) m.wheel_torques m.thruster_torques box i))
control_small m M box L z P k h i l t =
    let top = limit_of (rig_of m) m.wheel_torques m.thruster_torques box i in
    let e = P.is k h i l in
    rw e (control_within top (control_limit_law m M box L i l) (P.from k i) (P.from_fit k i) (clamp_n (neg top) top (P.from k i) (rw e at t)))
