-- What a run makes once: the skew's sine and cosine and the pyramid's matrix at the start. Assumes nothing.
use Rattle.std.specs.Prelude.{ℕ, ◌≡◌, refl, List, replicate, Float, Option, Some, None, Result, Ok, Err}
use Rattle.std.proofs.Common.{sym, ap, ◌∙◌, arith}
use Rattle.common.specs.Floats as Floats
use Rattle.angles.specs.Both.{both_of}
use Rattle.geom.specs.Vec as Vec
use Rattle.actuators.specs.Pyramid.{Jacobian, pyramid_a, pyramid_from, skewed}
use Rattle.actuators.specs.declared.CmgPyramid.{CmgPyramid}
use Rattle.forward.specs.Decisions.{row_of}
use Rattle.forward.specs.Steps.{matrix_at, matrix_step, step, stop}
use Rattle.forward.specs.declared.Body.{Body}
use Rattle.forward.specs.StepLaws.{SkewOf, Made, refused_ok, ok_same}
use Rattle.forward.specs.Runs.{start_rollout, rollout_turn, advance, run_from, refused_run}
use Rattle.forward.specs.RunLaws.{ends_refused, refused_turn, going_rollout}
use Rattle.common.specs.IterLaws.{iter_none}
use Rattle.forward.specs.declared.BodyState.{BodyState}
use Rattle.forward.specs.declared.Skew.{Skew}
use Rattle.forward.specs.declared.GimbalStart.{GimbalStart}
use Rattle.forward.specs.declared.Run.{Run}
use Rattle.common.specs.declared.Refusal.{Refusal}
use Rattle.common.specs.Refusals.{refusal}

-- the gimbals at the start
abbrev pub level : List Float
level = replicate 4 Floats.plus_zero

abbrev pub no_skew : Skew
no_skew = record { sine = Floats.plus_zero; cosine = Floats.plus_zero }

-- a refused matrix refuses the start
abbrev pub matrix_from : Float → Float → Jacobian → Result GimbalStart Refusal
matrix_from s c (Err why) = Err why
matrix_from s c (Ok a) = Ok (record { skew = record { sine = s; cosine = c }; a = a })

abbrev pub skew_by : Option (Float × Float) → Result GimbalStart Refusal
skew_by None = Err (refusal 11 0)
skew_by (Some (s, c)) = matrix_from s c (pyramid_from s c level)

abbrev pub launch_by : Option CmgPyramid → Result GimbalStart Refusal
launch_by None = Ok (record { skew = no_skew; a = replicate 12 Floats.plus_zero })
launch_by (Some p) = skew_by (both_of p.skew_rad)

unfoldable pub start_gimbals : Option CmgPyramid → Result GimbalStart Refusal
start_gimbals c = launch_by c

-- ---- it is the matrix at the start
record At (c : Option CmgPyramid) (l : Result GimbalStart Refusal) : Type 0 where
  refuses : {why : Refusal} → l ≡ Err why → matrix_at c level ≡ Err why
  goes : {x : GimbalStart} → l ≡ Ok x → SkewOf c x.skew × Made c level x.a

err_same : {A B : Type 0} {x y : Refusal} → ◌≡◌ {A = Result A Refusal} (Err x) (Err y) → ◌≡◌ {A = Result B Refusal} (Err x) (Err y)
err_same h = let e : ◌≡◌ {A = Refusal} _ _ = cc in ap (λ (x : Refusal). Err x) e

at_matrix : (p : CmgPyramid) (s c : Float) (m : Jacobian) → both_of p.skew_rad ≡ Some (s, c) → pyramid_a p.skew_rad level ≡ m → At (Some p) (matrix_from s c m)
at_matrix p s c (Err why) e q = record { refuses = λ h. q ∙ err_same h; goes = λ h. absurd (refused_ok h) }
at_matrix p s c (Ok a) e q = record { refuses = λ h. absurd (refused_ok (sym h)); goes = λ h. rw (← ok_same h) (e, q) }

at_by : (p : CmgPyramid) (b : Option (Float × Float)) → both_of p.skew_rad ≡ b → At (Some p) (skew_by b)
unfolding pyramid_a
at_by p None e = record {
  refuses = λ h. ap (λ (b : Option (Float × Float)). skewed b level) e ∙ err_same h;
  goes = λ h. absurd (refused_ok h);
}
at_by p (Some (s, c)) e = at_matrix p s c (pyramid_from s c level) e (ap (λ (b : Option (Float × Float)). skewed b level) e)

at : (c : Option CmgPyramid) → At c (launch_by c)
at None = record { refuses = λ h. absurd (refused_ok (sym h)); goes = λ h. rw (← ok_same h) (tt, refl) }
at (Some p) = at_by p (both_of p.skew_rad) refl

-- a start of the gimbals that goes on has what the first step asks for
pub start_goes : (c : Option CmgPyramid) {l : Result GimbalStart Refusal} {x : GimbalStart} → l ≡ start_gimbals c → l ≡ Ok x → SkewOf c x.skew × Made c level x.a
unfolding start_gimbals
start_goes c e h = (at c).goes (sym e ∙ h)

-- one that is refused ends the run at step 0
halts : (b : Body) (u : List Float) (k : ℕ) (s : BodyState) {why : Refusal} → matrix_at b.rig.cmgs s.delta ≡ Err why → stop 11 k s ≡ step b u k s
unfolding step
halts b u k s h = rw h refl

pub start_refused : (b : Body) (n : ℕ) (z : List Float) (s : BodyState) {l : Result GimbalStart Refusal} {why : Refusal} → s.delta ≡ level → l ≡ start_gimbals b.rig.cmgs → l ≡ Err why → refused_run 11 0 ≡ run_from b n z s
unfolding start_gimbals
start_refused b n z s d e h =
    ends_refused b n z s 0 (start_rollout s) (omega arith) (iter_none _ _)
    (refused_turn b n z 0 s Floats.plus_zero _ (halts b (row_of n z 0) 0 s (ap (λ (x : List Float). matrix_at b.rig.cmgs x) d ∙ (at b.rig.cmgs).refuses (sym e ∙ h))) refl)
