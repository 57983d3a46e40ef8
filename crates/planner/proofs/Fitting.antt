-- Every f64 of a parameter that is handed over by value is a number of binary64. Assumes nothing.
use Rattle.std.specs.Prelude.{Option, Some, None}
use mathlib.Core.Bool.{true}
use mathlib.Core.Path.{◌≡◌, subst, sym}
use mathlib.Core.List.{List, [], ◌∷◌}
use Prim.Native.Nat.{ℕ, zero, suc}
use lib.Dec.{T}
use lib.ListN.{get_or, length}
use lib.Ieee.{Float, nan, binary64, fits}
use mir.Val.{Val}
use base.Fml.{Fml}
use denote.Floats.{FloatOf}
use denote.Array.{Array, each}
use denote.Shadow.{shadow}
use denote.Laws.{Is}
use Rattle.common.specs.Lists.{at}
use Rattle.std.specs.contracts.option.Option as OptionOf
use Rattle.geom.specs.declared.Quat.{Quat}
use Rattle.geom.specs.contracts.Quat as QuatOf
use Rattle.actuators.specs.Maps.{wheel_at, thruster_at}
use Rattle.actuators.specs.contracts.CmgPyramid as CmgPyramidOf
use Rattle.actuators.specs.declared.Wheel.{Wheel}
use Rattle.actuators.specs.declared.Thruster.{Thruster}
use Rattle.actuators.specs.declared.Actuators.{Actuators}
use Rattle.actuators.specs.contracts.Actuators as ActuatorsOf
use Rattle.actuators.specs.contracts.Wheel as WheelOf
use Rattle.actuators.specs.contracts.Thruster as ThrusterOf
use Rattle.problem.specs.declared.Problem.{Problem}
use Rattle.problem.specs.contracts.Problem as ProblemOf
use Rattle.run_laws.specs.Values.{FitsQ}
use Rattle.run_laws.specs.Prepared.{RateFits}
use Rattle.run_laws.specs.Checked.{SlewFits, FitsP}
use Rattle.search_laws.specs.Fits.{Fit}
use Rattle.search_laws.specs.Prepared.{FitsA}
use Rattle.search_laws.specs.DeclaredLaws.{given_fits}
use Rattle.actuators.specs.declared.CmgPyramid.{CmgPyramid}

held : (x : Float) → fits binary64 x ≡ true → T (fits binary64 x)
held x e = subst T (sym e) tt

-- what stands past the end is a NaN, which fits
nan_held : T (fits binary64 nan)
unfolding fits
nan_held = tt

-- each element of an array, and what stands past its end
each_held : {A : Type 0} (own : A → List Val → Fml) (P : A → Type 0) → ((x : A) (vs : List Val) → shadow (own x vs) → P x) → (d : A) → P d
    → (xs : List A) (us : List Val) → shadow (each A own xs us) → (i : ℕ) → P (get_or xs i d)
each_held own P h d past [] us s i = past
each_held own P h d past (x ∷ xs) [] s i = absurd s
each_held own P h d past (x ∷ xs) (u ∷ us) s zero = h x (u ∷ []) s.0
each_held own P h d past (x ∷ xs) (u ∷ us) s (suc i) = each_held own P h d past xs us s.1 i

-- the numbers of an array in a struct
field_held : (xs : List Float) (us : List Val) → shadow (each Float (FloatOf binary64).own_val xs us) → Fit xs
field_held xs us s i = each_held (FloatOf binary64).own_val (λ x. T (fits binary64 x)) (λ x vs g. held x g.1) nan nan_held xs us s i

-- the count of an array in a struct
pub field_count : (n : ℕ) (xs : List Float) (vs : List Val) → Is (Array (FloatOf binary64) n) xs vs → length xs ≡ n
field_count n xs vs g = g.1.0.1

-- the numbers of an array
pub array_held : (n : ℕ) (xs : List Float) (vs : List Val) → Is (Array (FloatOf binary64) n) xs vs → Fit xs
array_held n xs vs g = field_held xs g.0 g.1.1

-- ---- the actuators
rate_held : (c : Option CmgPyramid) (vs : List Val) → Is (OptionOf.the_row CmgPyramidOf.the_row) c vs → RateFits c
rate_held None vs g = tt
rate_held (Some y) vs g = held _ g.1.1.1.1.0.1.1.1.1.0.1

actuators_held : (a : Actuators) (vs : List Val) → Is ActuatorsOf.the_row a vs → FitsA a
actuators_held a vs g =
    let f = g.1.1 in
    record {
      torque = each_held WheelOf.the_row.own_val (λ (w : Wheel). T (fits binary64 w.max_torque_nm)) (λ w us h. held _ h.1.1.1.0.1) _ nan_held a.wheels _ f.0.1.1;
      momentum = each_held WheelOf.the_row.own_val (λ (w : Wheel). T (fits binary64 w.max_momentum_nms)) (λ w us h. held _ h.1.1.1.1.0.1) _ nan_held a.wheels _ f.0.1.1;
      axis = each_held WheelOf.the_row.own_val (λ (w : Wheel). Fit w.axis) (λ w us h. field_held w.axis _ h.1.1.0.1.1) _ (λ i. nan_held) a.wheels _ f.0.1.1;
      thrust = each_held ThrusterOf.the_row.own_val (λ (t : Thruster). T (fits binary64 t.max_torque_nm)) (λ t us h. held _ h.1.1.1.0.1) _ nan_held a.thrusters _ f.1.1.0.1.1;
      rate = rate_held a.cmgs _ f.1.1.1.1.0;
    }

-- ---- the problem as a user gives it
slew_held : (l : Option Float) (vs : List Val) → Is (OptionOf.the_row (FloatOf binary64)) l vs → SlewFits l
slew_held None vs g = tt
slew_held (Some r) vs g = held r g.1.1.1.1.0.1

quat_held : (q : Quat) (vs : List Val) → Is QuatOf.the_row q vs → FitsQ q
quat_held q vs g =
    let f = g.1.1 in
    record { w = held _ f.0.1; x = held _ f.1.0.1; y = held _ f.1.1.0.1; z = held _ f.1.1.1.0.1 }

pub problem_held : (p : Problem) (vs : List Val) → Is ProblemOf.the_row p vs → FitsP p
problem_held p vs g =
    let f = g.1.1 in
    given_fits p (record {
      q0 = quat_held p.q0 _ f.0;
      qf = quat_held p.qf _ f.1.0;
      limit = λ i h. field_held p.torque_limit _ f.1.1.1.0.1.1 i;
      slew = slew_held p.slew _ f.1.1.1.1.0;
      tolerance = held _ f.1.1.1.1.1.1.0.1;
      actuators = actuators_held p.actuators _ f.1.1.1.1.1.1.1.1.0;
      momenta = field_held p.momenta.at _ f.1.1.1.1.1.1.1.1.1.0.1.1.1.0.1.1;
    })
