-- Every decision that the search takes up is a projected one: f64 holds its numbers, each control is clamped to its limit, and past its numbers stands what
-- the seed's has there. Assumes nothing.
use Rattle.std.specs.Prelude.{◌≡◌, refl, ℕ, zero, suc, ◌<◌, ◌≤◌, set, length}
use Rattle.std.proofs.Common.{◌∙◌, arith, length-set, get_or-set_other}
use mathlib.Core.List.{List, [], ◌∷◌}
use Rattle.std.proofs.Math.Dec.{T}
use Rattle.std.specs.Float.Ieee.{Float, binary64, add, fits, of_bits}
use Rattle.std.specs.Float.{nan}
use Rattle.std.specs.Float.Ieee.Fits.{add-fits}
use Rattle.common.specs.Iter.{iter}
use Rattle.common.specs.Lists.{at}
use Rattle.float.specs.Ops.{max, clamp}
use Rattle.float_laws.specs.Below.{below_turns}
use Rattle.float_laws.specs.Largest.{max_fits}
use Rattle.float_laws.specs.Limits.{Limit}
use Rattle.actuators.specs.Maps.{control_dim}
use Rattle.actuators.specs.declared.ActuatorMap.{ActuatorMap}
use Rattle.problem.specs.declared.CheckedProblem.{CheckedProblem}
use Rattle.forward.specs.Decisions.{packed_len, least_duration, unpack, shortest, longest, project_turn, project_decision}
use Rattle.scvx.specs.Search as Search
use Rattle.run_laws.specs.Prepared.{MapOk}
use Rattle.run_laws.specs.Checked.{Ready}
use Rattle.run_laws.specs.Decisions.{Projected, Done, all_done, projected_is}
use Rattle.search_laws.specs.Keeps.{Kept, searched_keeps}
use Rattle.search_laws.specs.Fits.{Fit}

-- ---- one number of a list set: what holds of the list's numbers and of the new one holds of all
pub set_all : (P : Float → Type 0) (z : List Float) (k : ℕ) (x : Float) → P x → ((i : ℕ) → P (at z i)) → (i : ℕ) → P (at (set z k x) i)
set_all P [] k x p q i = q i
set_all P (y ∷ z) zero x p q zero = p
set_all P (y ∷ z) zero x p q (suc i) = q (suc i)
set_all P (y ∷ z) (suc k) x p q zero = q 0
set_all P (y ∷ z) (suc k) x p q (suc i) = set_all P z k x p (λ j. q (suc j)) i

-- l is as long as z, and from place n on has the same numbers
pub record Tail (n : ℕ) (z l : List Float) : Type 0 where
  pub long : length l ≡ length z
  pub past : (i : ℕ) → n ≤ i → at l i ≡ at z i

pub tail_same : (n : ℕ) (z : List Float) → Tail n z z
tail_same n z = record { long = refl; past = λ i h. refl }

tail_on : (n : ℕ) (z l k : List Float) → Tail n z l → Tail n l k → Tail n z k
tail_on n z l k A B = record { long = B.long ∙ A.long; past = λ i h. B.past i h ∙ A.past i h }

tail_set : (n : ℕ) (z : List Float) (k : ℕ) (x : Float) → k < n → Tail n z (set z k x)
tail_set n z k x h = record { long = length-set z k x; past = λ i g. get_or-set_other z k i x nan (λ (e : i ≡ k). omega arith) }

-- ---- a step added
module _ (d : List Float) (n : ℕ) (z : List Float) (F : Fit z) where
  record Added (k : ℕ) (l : List Float) : Type 0 where
    tail : Tail n z l
    fit : Fit l

  add_turn : (k : ℕ) → k < n → (l : List Float) → Added k l → Added (suc k) (Search.add_turn_value d k l)
  add_turn k h l A =
      let x = add binary64 (at l k) (at d k) in
      record { tail = tail_on n z l (set l k x) A.tail (tail_set n l k x h); fit = set_all (λ y. T (fits binary64 y)) l k x (add-fits binary64 _ _) A.fit }

  added : Added n (iter (Search.add_turn_value d) z n)
  added = below_turns Added (Search.add_turn_value d) z n add_turn (record { tail = tail_same n z; fit = F })

-- ---- a decision held: its duration within 0.001..10,000, its rows projected
module _ (m : ActuatorMap) (M : MapOk m) (box : List Float) (L : (i : ℕ) → i < 3 → Limit (at box i)) (z : List Float) (long : packed_len (control_dim m) ≤ length z) where
  abbrev n : ℕ
  n = packed_len (control_dim m)

  -- projection leaves alone what stands past the numbers
  project_tail : Tail n z (project_decision m box z)
  unfolding project_decision
  project_tail = tail_on n z z0 (project_decision m box z) (tail_set n z 0 x (omega arith)) (record { long = D.lasts; past = D.after })
    where
      x : Float
      x = clamp shortest longest (at z 0)

      z0 : List Float
      z0 = set z 0 x

      D : Done m M box L z0 (rw (length-set z 0 x) long) 16 (iter (project_turn m box) z0 16)
      D = all_done m M box L z0 (rw (length-set z 0 x) long)

-- ---- what the search's decision is, beside the seed's
pub record Sound (p : CheckedProblem) (seed z : List Float) : Type 0 where
  pub projected : Projected p.map p.torque_limit z
  pub tail : Tail (packed_len (control_dim p.map)) seed z

module _ (p : CheckedProblem) (R : Ready p) (seed : List Float) (long : packed_len (control_dim p.map) ≤ length seed) where
  abbrev size : ℕ
  size = packed_len (control_dim p.map)

  trial_sound : (z d : List Float) → Sound p seed z → Sound p seed (Search.trial_of p z d)
  unfolding Search.trial_of Search.numbers
  trial_sound z d S = record {
    projected = projected_is p.map R.map p.torque_limit R.limits z2 long2 (set_all (λ y. T (fits binary64 y)) z1 0 x (max_fits binary64 (at z1 0) least_duration (A.fit 0) (unfold fits of_bits in tt)) A.fit);
    tail = tail_on size seed z1 (Search.project p z1) (tail_on size seed z z1 S.tail A.tail) (tail_on size z1 z2 (Search.project p z1) (tail_set size z1 0 x (omega arith)) (project_tail p.map R.map p.torque_limit R.limits z2 long2));
  }
    where
      -- the step added
      z1 : List Float
      z1 = iter (Search.add_turn_value d) z size

      A : Added d size z S.projected.fit size z1
      A = added d size z S.projected.fit

      -- the duration at least 1e-6
      x : Float
      x = max (at z1 0) least_duration

      z2 : List Float
      z2 = unpack z1

      long2 : size ≤ length z2
      long2 = rw (length-set z1 0 x, A.tail.long, S.tail.long) long

  sound_kept : Kept p (λ s. Sound p seed s.candidate.z)
  sound_kept = record { ran = λ s n q. q; ended = λ s f q. q; damped = λ s x q. q; begun = λ k s q. q; moved = λ s d y q h. trial_sound s.candidate.z d q }

  -- SOUND: the decision of every search from a projected seed
  pub searched_sound : Projected p.map p.torque_limit seed → Sound p seed (Search.searched p seed).candidate.z
  searched_sound P = searched_keeps p (λ s. Sound p seed s.candidate.z) sound_kept seed (unfold Search.start in record { projected = P; tail = tail_same size seed })
