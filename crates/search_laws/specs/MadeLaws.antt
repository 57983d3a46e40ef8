-- The decision that the search ends in is the seed's, or that of the trial last taken. Assumes nothing.
use Rattle.std.specs.Prelude.{◌≡◌, Bool, cond, List, ℕ, zero, suc, ◌<◌, ◌≤◌, leb, Float, Ok, Err}
use Rattle.std.proofs.Math.Path.{refl}
use Rattle.std.proofs.Math.Bool.{true, false}
use Rattle.std.proofs.Common.{arith, leb-true, leb-false}
use Rattle.std.specs.Float.Ieee.{lt, le}
use Rattle.common.specs.Iter.{iter}
use Rattle.problem.specs.declared.CheckedProblem.{CheckedProblem}
use Rattle.residuals.specs.Residuals.{residuals_of}
use Rattle.residuals.specs.declared.ResidualVector.{ResidualVector}
use Rattle.elimination.specs.Elimination.{Solution, Solved, Singular}
use Rattle.scvx.specs.Search as Search
use Rattle.scvx.specs.Search.{Columns, Formed, Broken}
use Rattle.scvx.specs.declared.Candidate.{Candidate}
use Rattle.scvx.specs.declared.Status.{Status}
use Rattle.scvx.specs.declared.Status.TheVariants.{Going, Ended, Refused}
use Rattle.scvx.specs.declared.SearchState.{SearchState}
use Rattle.search_laws.specs.Made.{state_at, StepsBy, Made, by_seed, by_trial}
use Rattle.common.specs.Refusals.{Fate}

-- ---- one iteration leaves the candidate, or takes the trial of its step
data Turned (p : CheckedProblem) (s : SearchState) (c : Candidate) : Type 0 where
  stayed : c ≡ s.candidate → Turned p s c
  took : (d : List Float) → StepsBy p s d → c ≡ Search.candidate_of p s.candidate.z d → Turned p s c

module _ (p : CheckedProblem) (k : ℕ) (s : SearchState) where
  abbrev e : ResidualVector
  e = residuals_of p s.candidate.z

  -- the iteration begun, its columns' runs counted, its trial's run counted
  abbrev s1 : SearchState
  s1 = Search.begin_iteration k s

  abbrev s2 : SearchState
  s2 = Search.count_runs_value s1 (Search.numbers p)

  abbrev s3 : SearchState
  s3 = Search.count_runs_value s2 1

  judge : (d : List Float) → StepsBy p s d → (b : Bool) (y u : Float) → Turned p s (cond b (Search.move_to s3 (Search.candidate_of p s.candidate.z d) y) (Search.with_damping s3 u)).candidate
  judge d S true y u = took d S refl
  judge d S false y u = stayed refl

  try_by : (d : List Float) → StepsBy p s d → (f : Fate) → Turned p s (Search.try_step_by p s3 (Search.trial_of p s.candidate.z d) (Search.trial_held p s.candidate.z d) (residuals_of p (Search.trial_of p s.candidate.z d)) f).candidate
  unfolding Search.judge
  try_by d S (Ok _) = judge d S (lt (Search.residual_length p (Search.trial_of p s.candidate.z d)) s.candidate.residual) _ _
  try_by d S (Err why) = stayed refl

  step_by : (j : List (List Float)) → Search.jacobian p s.candidate.z e.r ≡ Formed j → (x : Solution) → Search.step_of p j e.r s.lambda ≡ x → Turned p s (Search.take_step_by p s2 x).candidate
  unfolding Search.try_step
  step_by j J (Solved d) h = try_by d (record { columns = j; jacobian_is = J; solves = h }) (residuals_of p (Search.trial_of p s.candidate.z d)).fate
  step_by j J Singular h = stayed refl

  line_by_law : (c : Columns) → Search.jacobian p s.candidate.z e.r ≡ c → Turned p s (Search.linear_step_by p s1 e.r c).candidate
  unfolding Search.take_step
  line_by_law (Formed j) J = step_by j J (Search.step_of p j e.r s.lambda) refl
  line_by_law (Broken why runs) J = stayed refl

  improve : (b : Bool) → Turned p s (cond b (Search.with_status s1 Ended) (Search.linear_step p s1 e.r)).candidate
  unfolding Search.linear_step
  improve true = stayed refl
  improve false = line_by_law (Search.jacobian p s.candidate.z e.r) refl

  go_by : (f : Fate) → Turned p s (Search.iterate_by p s1 e f).candidate
  unfolding Search.improved
  go_by (Ok _) = improve (le (Search.length_of p e) Search.goal)
  go_by (Err why) = stayed refl

  turn_by : (f : Status) → Turned p s (Search.turn_by_value p k s f).candidate
  unfolding Search.iterate
  turn_by Going = go_by e.fate
  turn_by Ended = stayed refl
  turn_by (Refused why) = stayed refl

  turned : Turned p s (Search.turn p k s).candidate
  unfolding Search.turn
  turned = turn_by s.status

-- ---- all iterations
module _ (p : CheckedProblem) (seed : List Float) where
  next : (n : ℕ) → (state_at p seed (suc n)).candidate ≡ (Search.turn p n (state_at p seed n)).candidate
  unfolding iter
  next n = refl

  -- an iteration that leaves the candidate
  on : (n : ℕ) (c : Candidate) → (state_at p seed (suc n)).candidate ≡ c → Made p seed n c → Made p seed (suc n) c
  on n c h (by_seed m) = by_seed m
  on n c h (by_trial t) = by_trial (record { k = t.k; within = let l = t.within in omega arith; d = t.d; step = t.step; is = t.is; stays = λ j a b. go j a b (leb j n) (leb-true j n) (leb-false j n) })
    where
      go : (j : ℕ) → t.k < j → j ≤ suc n → (b : Bool) → (b ≡ true → j ≤ n) → (b ≡ false → n < j) → (state_at p seed j).candidate ≡ c
      go j a b true x y = t.stays j a (x refl)
      go j a b false x y = let l : n < j = y refl in let q : j ≡ suc n = omega arith in rw q h

  -- one that takes a trial
  new : (n : ℕ) (d : List Float) → StepsBy p (state_at p seed n) d → (c : Candidate) → c ≡ Search.candidate_of p (state_at p seed n).candidate.z d → (state_at p seed (suc n)).candidate ≡ c → Made p seed (suc n) c
  new n d S c e h = by_trial (record { k = n; within = omega arith; d = d; step = S; is = e; stays = λ j a b. let q : j ≡ suc n = omega arith in rw q h })

  made_next : (n : ℕ) → Made p seed n (state_at p seed n).candidate → (c : Candidate) → (state_at p seed (suc n)).candidate ≡ c → Turned p (state_at p seed n) c → Made p seed (suc n) c
  made_next n m c h (stayed e) = on n c h (rw e m)
  made_next n m c h (took d S e) = new n d S c e h

  made_at : (n : ℕ) → Made p seed n (state_at p seed n).candidate
  made_at zero = by_seed (unfold iter in refl)
  made_at (suc n) = rw (next n) (made_next n (made_at n) (Search.turn p n (state_at p seed n)).candidate (next n) (turned p n (state_at p seed n)))

  -- MADE: the candidate that the search ends in
  pub searched_made : Made p seed 40 (Search.searched p seed).candidate
  unfolding Search.searched
  searched_made = made_at 40
