-- A row held to one row of limits and then to another: a lab's limits nested inside ours. Over `project_controls`, and of every row, as in RowLaws. Assumes nothing.
use Rattle.std.specs.Prelude.{ℕ, zero, suc, ◌+◌, ◌-◌, ◌<◌, ◌≡◌, refl, Bool, true, false, cond, List, [], ◌∷◌, ltb, length, Float, Option, Some, None}
use Rattle.std.proofs.Common.{sym, ap, ◌∙◌, arith}
use Rattle.std.specs.Float.{nan, inf, fin}
use Rattle.std.specs.Float.Ieee.{lt, of_bits, is_nan}
use Rattle.common.specs.Lists.{at}
use Rattle.float.specs.Ops as Ops
use Rattle.actuators.specs.Maps.{gimbals, no_cmgs}
use Rattle.actuators.specs.declared.ActuatorMap.{ActuatorMap}
use Rattle.control_rows.specs.Parts.{bare, width}
use Rattle.control_limits.specs.Limits.{hold, gimbal_rate, part_limit_value, limit_of}
use Rattle.controls.specs.Controls.{rig_of, row_fits_value, project_controls}
use Rattle.control_rows.specs.declared.WheelLaw.TheVariants.{Once}
use Rattle.limit_laws.specs.Holds.{hold_nested}
use Rattle.limit_laws.specs.Rows.{row_limit, held_of, Limited, Numbers, Alike, smaller, slower, nested}
use Rattle.limit_laws.specs.RowLaws.{project_then}
use Rattle.actuators.specs.declared.CmgPyramid.{CmgPyramid}

-- ---- maps of the same actuators hold as many controls
gimbals_alike : (c d : Option CmgPyramid) → no_cmgs c ≡ no_cmgs d → gimbals c ≡ gimbals d
gimbals_alike None None e = refl
gimbals_alike None (Some q) e = let z : ◌≡◌ {A = ℕ} 0 1 = cc in absurd (omega arith)
gimbals_alike (Some p) None e = let z : ◌≡◌ {A = ℕ} 0 1 = cc in absurd (omega arith)
gimbals_alike (Some p) (Some q) e = refl

held_alike : (m k : ActuatorMap) → Alike m k → (n : ℕ) → held_of k n ≡ held_of m n
unfolding row_fits_value width
held_alike m k A n = rw (gimbals_alike k.cmgs m.cmgs A.pyramid, A.wheels, A.thrusters, A.pyramid)

-- TO ONE ROW OF LIMITS AND THEN TO ANOTHER IS TO ANY THIRD WHOSE LIMITS ARE, PLACE BY PLACE, THE SMALLER ONES
pub project_smaller : (m k s : ActuatorMap) (box lab both u : List Float) → Alike m k → Alike m s → Limited m box (length u) → Limited k lab (length u) → Numbers m u
    → ((i : ℕ) → i < held_of m (length u) → row_limit s both i ≡ Ops.min (row_limit m box i) (row_limit k lab i))
    → project_controls k lab (project_controls m box u) ≡ project_controls s both u
project_smaller m k s box lab both u A B L K N is =
    let e = held_alike m k A (length u) in
    project_then m k s box lab both u e (held_alike m s B (length u))
    (λ i h. hold_nested (L i h) (K i (rw e h)) (N i h) ∙ ap (λ l. hold l (at u i)) (sym (is i h)))

-- ---- the nested map has the smaller limits
min_nan : (y : Float) → Ops.min nan y ≡ y
unfolding Ops.min lt is_nan
min_nan nan = refl
min_nan (inf s) = refl
min_nan (fin s m e) = refl

nan_min : (x : Float) → Ops.min x nan ≡ x
unfolding Ops.min lt is_nan
nan_min nan = refl
nan_min (inf s) = refl
nan_min (fin s m e) = refl

smaller_at : (a b : List Float) (i : ℕ) → at (smaller a b) i ≡ Ops.min (at a i) (at b i)
smaller_at [] b i = sym (min_nan (at b i))
smaller_at (x ∷ a) [] i = sym (nan_min (at (x ∷ a) i))
smaller_at (x ∷ a) (y ∷ b) zero = refl
smaller_at (x ∷ a) (y ∷ b) (suc i) = smaller_at a b i

slower_rate : (c d : Option CmgPyramid) → no_cmgs d ≡ no_cmgs c → gimbal_rate (slower c d) ≡ Ops.min (gimbal_rate c) (gimbal_rate d)
unfolding Ops.min lt is_nan of_bits
slower_rate None None e = refl
slower_rate None (Some q) e = let z : ◌≡◌ {A = ℕ} 0 1 = cc in absurd (omega arith)
slower_rate (Some p) None e = let z : ◌≡◌ {A = ℕ} 0 1 = cc in absurd (omega arith)
slower_rate (Some p) (Some q) e = refl

slower_none : (c d : Option CmgPyramid) → no_cmgs (slower c d) ≡ no_cmgs c
slower_none None d = refl
slower_none (Some p) None = refl
slower_none (Some p) (Some q) = refl

nested_alike : (m k : ActuatorMap) → Alike m (nested m k)
nested_alike m k = record { wheels = refl; thrusters = refl; pyramid = slower_none m.cmgs k.cmgs }

nested_limit : (m k : ActuatorMap) → Alike m k → (box lab : List Float) (i : ℕ) → row_limit (nested m k) (smaller box lab) i ≡ Ops.min (row_limit m box i) (row_limit k lab i)
unfolding limit_of
nested_limit m k A box lab i = rw (slower_none m.cmgs k.cmgs, A.wheels, A.thrusters, A.pyramid) (go (bare (rig_of m)))
  where
    -- control j's limit in a row of parts
    limit : List Float → List Float → Option CmgPyramid → ℕ → Float
    limit wheels thrusters c j = part_limit_value (record { wheel_count = m.wheel_count; thruster_count = m.thruster_count; cmgs = c; law = Once }) wheels thrusters j

    W : List Float
    W = smaller m.wheel_torques k.wheel_torques

    U : List Float
    U = smaller m.thruster_torques k.thruster_torques

    j : ℕ
    j = i - m.wheel_count

    part : (b c : Bool) → cond b (at W i) (cond c (at U j) (gimbal_rate (slower m.cmgs k.cmgs)))
        ≡ Ops.min (cond b (at m.wheel_torques i) (cond c (at m.thruster_torques j) (gimbal_rate m.cmgs))) (cond b (at k.wheel_torques i) (cond c (at k.thruster_torques j) (gimbal_rate k.cmgs)))
    part true c = smaller_at m.wheel_torques k.wheel_torques i
    part false true = smaller_at m.thruster_torques k.thruster_torques j
    part false false = slower_rate m.cmgs k.cmgs A.pyramid

    go : (a : Bool) → cond a (at (smaller box lab)) (limit W U (slower m.cmgs k.cmgs)) i
        ≡ Ops.min (cond a (at box) (limit m.wheel_torques m.thruster_torques m.cmgs) i) (cond a (at lab) (limit k.wheel_torques k.thruster_torques k.cmgs) i)
    go true = smaller_at box lab i
    go false = part (ltb i m.wheel_count) (ltb i (m.wheel_count + m.thruster_count))

-- TO ONE ROW OF LIMITS AND THEN TO ANOTHER IS TO THE SMALLER ONES, PLACE BY PLACE
pub project_nested : (m k : ActuatorMap) (box lab u : List Float) → Alike m k → Limited m box (length u) → Limited k lab (length u) → Numbers m u
    → project_controls k lab (project_controls m box u) ≡ project_controls (nested m k) (smaller box lab) u
project_nested m k box lab u A L K N = project_smaller m k (nested m k) box lab (smaller box lab) u A (nested_alike m k) L K N (λ i h. nested_limit m k A box lab i)
