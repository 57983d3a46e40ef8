-- The seed's decision is a projected one: f64 holds its numbers where it holds the seed's, each control is clamped to its limit, and past its numbers stands +0. Assumes nothing.
use Rattle.std.specs.Prelude.{◌≡◌, refl, Bool, true, false, cond, ◌&&◌, List, [], ◌∷◌, ◌++◌, ℕ, zero, suc, ◌+◌, ◌*◌, ◌<◌, ◌≤◌, T, eqb, set, length, take, replicate, Float, Option, Some, None, Result, Ok, Err}
use Rattle.std.proofs.Common.{◌∙◌, suc-mul, arith, length-take-le}
use Rattle.std.proofs.lemmas.List.{get_or-replicate}
use Rattle.std.specs.Float.{nan, binary64}
use Rattle.std.specs.Float.Ieee.{neg, lt, fits, of_bits}
use Rattle.std.specs.Float.Ieee.Bits.{is_false}
use Rattle.std.specs.Float.Ieee.Fits.{add-fits, nan-fits}
use Rattle.common.specs.Floats as Floats
use Rattle.common.specs.IterLaws.{row_end}
use Rattle.common.specs.Lists.{at}
use Rattle.float.specs.Ops.{clamp}
use Rattle.float_laws.specs.Below.{below_turns}
use Rattle.float_laws.specs.Limits.{Limit, limit_held, limit_place}
use Rattle.float_laws.specs.Order.{neg_held, place_neg, up_nlt}
use Rattle.geom.specs.Vec as Vec
use Rattle.geom.specs.Tensors.{invert3}
use Rattle.actuators.specs.Maps.{is_empty, control_dim}
use Rattle.actuators.specs.Pyramid.{Jacobian, rows, gram, pyramid_a}
use Rattle.actuators.specs.Allocate as Allocate
use Rattle.actuators.specs.Allocate.{Allocated}
use Rattle.actuators.specs.declared.CmgPyramid.{CmgPyramid}
use Rattle.actuators.specs.declared.ActuatorMap.{ActuatorMap}
use Rattle.forward.specs.Decisions.{packed_len}
use Rattle.seeds.specs.Seeds as Seeds
use Rattle.run_laws.specs.Prepared.{MapOk}
use Rattle.run_laws.specs.Runs.{take_fits}
use Rattle.run_laws.specs.Decisions.{paste_low, paste_high, paste_length, paste_all, Projected, Done, all_done, control_limit_law}
use Rattle.search_laws.specs.Decisions.{set_all}
use Rattle.search_laws.specs.Fits.{Fit}
use Rattle.common.specs.declared.Refusal.{Refusal}

-- ---- lists that f64 holds, number by number
abbrev pub All : List Float → Type 0
All [] = Unit {0}
All (x ∷ l) = T (fits binary64 x) × All l

pub all_fit : (l : List Float) → All l → Fit l
all_fit [] p i = nan-fits binary64
all_fit (x ∷ l) p zero = p.0
all_fit (x ∷ l) p (suc i) = all_fit l p.1 i

pub append_fits : (k l : List Float) → Fit k → Fit l → Fit (k ++ l)
append_fits [] l p q i = q i
append_fits (x ∷ k) l p q zero = p 0
append_fits (x ∷ k) l p q (suc i) = append_fits k l (λ j. p (suc j)) q i

pub zero_fits : T (fits binary64 Floats.plus_zero)
unfolding fits of_bits
zero_fits = tt

zeros : (n : ℕ) → All (replicate n Floats.plus_zero)
zeros zero = tt
zeros (suc n) = (zero_fits, zeros n)

pub zeros_fit : (n : ℕ) → Fit (replicate n Floats.plus_zero)
zeros_fit n = all_fit (replicate n Floats.plus_zero) (zeros n)

-- ---- a row that `allocate` gives: 20 numbers, that f64 holds where it holds the torque
record Row (tau : List Float) (a : Allocated) : Type 0 where
  long : length (Allocate.row_or_zeros a) ≡ 20
  fit : Fit tau → Fit (Allocate.row_or_zeros a)

module _ (tau : List Float) where
  unserved_row : (n place : ℕ) → Row tau (Allocate.unserved n place)
  unserved_row n place = record { long = refl; fit = λ F. zeros_fit 20 }

  three_row : (v : List Float) → (Fit tau → Fit v) → Row tau (Ok (Allocate.three v))
  three_row v f = record { long = refl; fit = λ F. all_fit (Allocate.three v) (f F 0, (f F 1, (f F 2, zeros 17))) }

  four_row : (a : List (List Float)) (y : List Float) → Row tau (Ok (Allocate.four a y))
  four_row a y = record { long = refl; fit = λ F. all_fit (Allocate.four a y) (add-fits binary64 _ _, (add-fits binary64 _ _, (add-fits binary64 _ _, (add-fits binary64 _ _, zeros 16)))) }

  along_row : (i : Result (List Float) Refusal) (v : List Float) → Row tau (Allocate.along_by i v)
  along_row (Ok inverse) v = let w = Vec.apply_tensor (Vec.tensor inverse) v in three_row w (λ F. all_fit w (add-fits binary64 _ _, (add-fits binary64 _ _, (add-fits binary64 _ _, tt))))
  along_row (Err why) v = unserved_row 6 1

  least_row : (i : Result (List Float) Refusal) (a : List (List Float)) (v : List Float) → Row tau (Allocate.least_by_value i a v)
  least_row (Ok inverse) a v = four_row a (Vec.apply_tensor (Vec.tensor inverse) v)
  least_row (Err why) a v = unserved_row 6 1

  along : (a : List (List Float)) (v : List Float) → Row tau (Allocate.along_axes a v)
  unfolding Allocate.along_axes
  along a v = along_row (invert3 a) v

  least : (a : List (List Float)) (v : List Float) → Row tau (Allocate.least_rates a v)
  unfolding Allocate.least_rates
  least a v = least_row (invert3 (gram a)) a v

  pyramid_row : (j : Jacobian) (p : CmgPyramid) → Row tau (Allocate.pyramid_alone_by j p tau)
  pyramid_row (Ok a) p = least (rows a) _
  pyramid_row (Err why) p = unserved_row why.number why.place

  either : (b : Bool) (x y : Allocated) → Row tau x → Row tau y → Row tau (cond b x y)
  either true x y p q = p
  either false x y p q = q

  axes_row : (m : ActuatorMap) → Row tau (Allocate.axes_alone m tau)
  unfolding Allocate.axes_alone
  axes_row m =
      either (Allocate.alone m.wheel_count m.thruster_count) (Allocate.along_axes (Allocate.columns m.wheel_axes) (Vec.scale3 tau Vec.minus_one)) _ (along _ _)
      (either (Allocate.alone m.thruster_count m.wheel_count) (Allocate.along_axes (Allocate.columns m.thruster_axes) tau) (Allocate.unserved 8 0) (along _ _) (unserved_row 8 0))

  pyramid_alone_law : (p : CmgPyramid) → Row tau (Allocate.pyramid_alone p tau)
  unfolding Allocate.pyramid_alone
  pyramid_alone_law p = pyramid_row (pyramid_a p.skew_rad (replicate 4 Floats.plus_zero)) p

  served_row : (c : Option CmgPyramid) (m : ActuatorMap) → Row tau (Allocate.served_by c m tau)
  served_row None m = axes_row m
  served_row (Some p) m = either (eqb m.wheel_count 0 && eqb m.thruster_count 0) (Allocate.pyramid_alone p tau) (Allocate.unserved 8 0) (pyramid_alone_law p) (unserved_row 8 0)

  allocate_row : (m : ActuatorMap) → Row tau (Allocate.allocate m tau)
  unfolding Allocate.allocate
  allocate_row m = either (is_empty m) (Ok (Allocate.three tau)) (Allocate.served_by m.cmgs m tau) (three_row tau (λ F. F)) (served_row m.cmgs m)

-- ---- a clamped number is its own clamp, a NaN too
twice : {A : Type 0} (b : Bool) (x : A) → x ≡ cond b x x
twice true x = refl
twice false x = refl

clamp_again : (lo hi x : Float) → lt hi lo ≡ false → clamp lo hi x ≡ clamp lo hi (clamp lo hi x)
unfolding clamp
clamp_again lo hi x e = go (lt x lo) (lt hi x) refl refl
  where
    go : (a b : Bool) → lt x lo ≡ a → lt hi x ≡ b → cond a lo (cond b hi x) ≡ cond (lt (cond a lo (cond b hi x)) lo) lo (cond (lt hi (cond a lo (cond b hi x))) hi (cond a lo (cond b hi x)))
    go true b p q = rw e (twice (lt lo lo) lo)
    go false true p q = rw e (twice (lt hi hi) hi)
    go false false p q = rw (p, q) refl

limit_over : (top : Float) → Limit top → lt top (neg top) ≡ false
limit_over top K =
    let H = limit_held top K in
    is_false (lt top (neg top)) (up_nlt binary64 top (neg top) H (neg_held H) (omega (arith, limit_place top K, place_neg binary64 top H)))

-- ---- the 16 rows, allocated
module _ (m : ActuatorMap) (narrow : control_dim m ≤ 12) (duration : Float) (torques : List Float) where
  abbrev c : ℕ
  c = control_dim m

  -- after n rows: 193 numbers, the duration as it stands, +0 past the rows
  record Filled (n : ℕ) (l : List Float) : Type 0 where
    long : length l ≡ 193
    first : at l 0 ≡ duration
    past : (i : ℕ) → 1 + n * c ≤ i → i < 193 → at l i ≡ Floats.plus_zero
    fit : T (fits binary64 duration) → Fit torques → Fit l

  turn : (k : ℕ) → k < 16 → (l : List Float) → Filled k l → Filled (suc k) (Seeds.allocate_turn m torques k l)
  turn k h l D = record {
    long = paste_length l u a c room lu ∙ D.long;
    first = paste_low l u a c room lu 0 (omega arith) ∙ D.first;
    past = λ i q r. let s = suc-mul k c in paste_high l u a c room lu i (omega arith) ∙ D.past i (omega arith) r;
    fit = λ F G. paste_all l u a c room lu (λ x. T (fits binary64 x)) (D.fit F G) (λ i q. take_fits (Allocate.row_or_zeros x) c (A.fit (all_fit (Seeds.torque_at torques k) (G (3 * k), (G (3 * k + 1), (G (3 * k + 2), tt))))) i);
  }
    where
      x : Allocated
      x = Allocate.allocate m (Seeds.torque_at torques k)

      A : Row (Seeds.torque_at torques k) x
      A = allocate_row (Seeds.torque_at torques k) m

      u : List Float
      u = take c (Allocate.row_or_zeros x)

      a : ℕ
      a = 1 + k * c

      room : a + c ≤ length l
      room = let s = row_end k 16 c h in omega (arith, D.long, narrow)

      lu : length u ≡ c
      lu = length-take-le c (Allocate.row_or_zeros x) (omega (arith, A.long, narrow))

  begin : Filled 0 (set (replicate 193 Floats.plus_zero) 0 duration)
  begin = record {
    long = refl;
    first = refl;
    past = λ i q r. began i q r;
    fit = λ F G. set_all (λ x. T (fits binary64 x)) (replicate 193 Floats.plus_zero) 0 duration F (zeros_fit 193);
  }
    where
      began : (i : ℕ) → 1 + 0 * c ≤ i → i < 193 → at (set (replicate 193 Floats.plus_zero) 0 duration) i ≡ Floats.plus_zero
      began zero q r = absurd (no q)
        where
          no : 1 + 0 * c ≤ 0 → ⊥
          no q = omega arith
      began (suc i) q r = get_or-replicate 192 i Floats.plus_zero nan (omega arith)

  filled : Filled 16 (Seeds.allocated m duration torques)
  unfolding Seeds.allocated
  filled = below_turns Filled (Seeds.allocate_turn m torques) (set (replicate 193 Floats.plus_zero) 0 duration) 16 turn begin

  -- ---- and projected
  module _ (M : MapOk m) (box : List Float) (L : (i : ℕ) → i < 3 → Limit (at box i)) where
    abbrev z0 : List Float
    z0 = Seeds.allocated m duration torques

    wide : packed_len c ≤ length z0
    wide = omega (arith, filled.long, narrow)

    done : Done m M box L z0 wide 16 (Seeds.seed_decision m box duration torques)
    unfolding Seeds.seed_decision
    done = all_done m M box L z0 wide

    -- 193 numbers, the duration as it stands, +0 past the numbers of the decision
    pub seed_long : length (Seeds.seed_decision m box duration torques) ≡ 193
    seed_long = done.lasts ∙ filled.long

    pub seed_duration_law : at (Seeds.seed_decision m box duration torques) 0 ≡ duration
    seed_duration_law = done.before ∙ filled.first

    pub seed_past : (i : ℕ) → packed_len c ≤ i → i < 193 → at (Seeds.seed_decision m box duration torques) i ≡ Floats.plus_zero
    seed_past i h k = done.after i h ∙ filled.past i h k

    -- f64 holds it, where it holds the seed's numbers
    pub seed_fits : T (fits binary64 duration) → Fit torques → Fit (Seeds.seed_decision m box duration torques)
    seed_fits F G = done.fit (filled.fit F G)

    -- PROJECTED
    pub seed_projected : Fit (Seeds.seed_decision m box duration torques) → Projected m box (Seeds.seed_decision m box duration torques)
    seed_projected F = record {
      fit = F;
      from = λ k i. at (Seeds.seed_decision m box duration torques) (1 + k * c + i);
      from_fit = λ k i. F (1 + k * c + i);
      is = λ k h i l. rw (done.rows k h i l) (clamp_again _ _ _ (limit_over _ (control_limit_law m M box L i l)));
    }
