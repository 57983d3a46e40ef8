-- How many forward runs the search begins, iteration by iteration. Assumes nothing.
use Rattle.std.specs.Prelude.{ℕ, zero, suc, ◌+◌, ◌*◌, ◌≤◌, ◌≡◌, refl, Bool, true, false, cond, List, [], Float, Ok, Err}
use Rattle.std.proofs.Common.{le_refl, suc-mul, arith, subst}
use Rattle.std.specs.Float.Ieee.{lt, le}
use Rattle.common.specs.Iter.{iter}
use Rattle.problem.specs.declared.CheckedProblem.{CheckedProblem}
use Rattle.residuals.specs.Residuals.{residuals_of}
use Rattle.residuals.specs.declared.ResidualVector.{ResidualVector}
use Rattle.elimination.specs.Elimination.{Solution, Solved, Singular}
use Rattle.scvx.specs.declared.Status.{Status}
use Rattle.scvx.specs.declared.Status.TheVariants.{Going, Ended, Refused}
use Rattle.scvx.specs.declared.Candidate.{Candidate}
use Rattle.scvx.specs.declared.SearchState.{SearchState}
use Rattle.scvx.specs.Search.{numbers, width, length_of, trial_candidate, Columns, Formed, Broken, column_by, column_turn, perturb, jacobian, count_runs_value, with_status, move_to, with_damping, judge, weaker, stronger, try_step_by, trial_of, trial_held, try_step, step_of, take_step_by, take_step, linear_step_by, linear_step, goal, improved, iterate_by, begin_iteration, iterate, turn_by_value, turn}
use Rattle.common.specs.Refusals.{Fate}
use Rattle.common.specs.declared.Refusal.{Refusal}

either : (b : Bool) (x y : SearchState) {n : ℕ} → x.runs ≤ n → y.runs ≤ n → (cond b x y).runs ≤ n
either true x y h k = h
either false x y h k = k

judge_le : (s : SearchState) (t : Candidate) → (judge s t).runs ≤ s.runs
unfolding judge
judge_le s t = either (lt t.residual s.candidate.residual) (move_to s t (weaker s.lambda)) (with_damping s (stronger s.lambda)) (le_refl s.runs) (le_refl s.runs)

try_step_by_law : (p : CheckedProblem) (s : SearchState) (t : List Float) (held : List ℕ) (e : ResidualVector) (f : Fate) → (try_step_by p s t held e f).runs ≤ s.runs
try_step_by_law p s t held e (Ok _) = judge_le s (trial_candidate t e.r (width p) held)
try_step_by_law p s t held e (Err why) = le_refl s.runs

take_step_by_law : (p : CheckedProblem) (s : SearchState) (x : Solution) → (take_step_by p s x).runs ≤ s.runs + 1
unfolding try_step
take_step_by_law p s (Solved d) = try_step_by_law p (count_runs_value s 1) (trial_of p s.candidate.z d) (trial_held p s.candidate.z d) (residuals_of p (trial_of p s.candidate.z d)) (residuals_of p (trial_of p s.candidate.z d)).fate
take_step_by_law p s Singular = omega arith

-- the runs that a refusal in the Jacobian names
abbrev broken_runs : Columns → ℕ
broken_runs (Formed l) = 0
broken_runs (Broken why runs) = runs

column_by_law : (m : ℕ) (r0 : List Float) (c : ℕ) (l : List (List Float)) (f : Fate) (r : List Float) → broken_runs (column_by m r0 c l f r) ≤ suc c
column_by_law m r0 c l (Ok _) r = omega arith
column_by_law m r0 c l (Err why) r = omega arith

column_le : (p : CheckedProblem) (m : ℕ) (z r0 : List Float) (c : ℕ) (j : Columns) → broken_runs j ≤ c → broken_runs (column_turn p m z r0 c j) ≤ suc c
column_le p m z r0 c (Formed l) h = column_by_law m r0 c l (residuals_of p (perturb p z c)).fate (residuals_of p (perturb p z c)).r
column_le p m z r0 c (Broken why runs) h = omega arith

columns_le : (p : CheckedProblem) (m : ℕ) (z r0 : List Float) (n : ℕ) → broken_runs (iter (column_turn p m z r0) (Formed []) n) ≤ n
unfolding iter
columns_le p m z r0 zero = le_refl 0
columns_le p m z r0 (suc n) = column_le p m z r0 n (iter (column_turn p m z r0) (Formed []) n) (columns_le p m z r0 n)

jacobian_le : (p : CheckedProblem) (z r0 : List Float) → broken_runs (jacobian p z r0) ≤ numbers p
unfolding jacobian
jacobian_le p z r0 = columns_le p (width p) z r0 (numbers p)

-- a Jacobian that is refused began at most one run a column
pub broken_le : (p : CheckedProblem) (z r0 : List Float) {why : Refusal} {runs : ℕ} → jacobian p z r0 ≡ Broken why runs → runs ≤ numbers p
broken_le p z r0 e = subst (λ (j : Columns). broken_runs j ≤ numbers p) e (jacobian_le p z r0)

linear_step_by_law : (p : CheckedProblem) (s : SearchState) (r : List Float) (j : Columns) → broken_runs j ≤ numbers p → (linear_step_by p s r j).runs ≤ s.runs + numbers p + 1
unfolding take_step
linear_step_by_law p s r (Formed l) h = take_step_by_law p (count_runs_value s (numbers p)) (step_of p l r s.lambda)
linear_step_by_law p s r (Broken why runs) h = omega arith

linear_step_le : (p : CheckedProblem) (s : SearchState) (r : List Float) → (linear_step p s r).runs ≤ s.runs + numbers p + 1
unfolding linear_step
linear_step_le p s r = linear_step_by_law p s r (jacobian p s.candidate.z r) (jacobian_le p s.candidate.z r)

iterate_by_law : (p : CheckedProblem) (s : SearchState) (e : ResidualVector) (f : Fate) → (iterate_by p s e f).runs ≤ s.runs + numbers p + 1
unfolding improved
iterate_by_law p s e (Ok _) = either (le (length_of p e) goal) (with_status s Ended) (linear_step p s e.r) (omega arith) (linear_step_le p s e.r)
iterate_by_law p s e (Err why) = omega arith

-- an iteration: the decision's run, one a column, the trial's
pub iterate_le : (p : CheckedProblem) (k : ℕ) (s : SearchState) → (iterate p k s).runs ≤ s.runs + (numbers p + 2)
unfolding iterate
iterate_le p k s = omega (arith, iterate_by_law p (begin_iteration k s) (residuals_of p s.candidate.z) (residuals_of p s.candidate.z).fate)

turn_by : (p : CheckedProblem) (k : ℕ) (s : SearchState) (f : Status) → (turn_by_value p k s f).runs ≤ s.runs + (numbers p + 2)
turn_by p k s Going = iterate_le p k s
turn_by p k s Ended = omega arith
turn_by p k s (Refused why) = omega arith

turn_le : (p : CheckedProblem) (k : ℕ) (s : SearchState) → (turn p k s).runs ≤ s.runs + (numbers p + 2)
unfolding turn
turn_le p k s = turn_by p k s s.status

pub turns_le : (p : CheckedProblem) (s : SearchState) (k : ℕ) → (iter (turn p) s k).runs ≤ s.runs + k * (numbers p + 2)
unfolding iter
turns_le p s zero = omega arith
turns_le p s (suc k) = omega (arith, turn_le p k (iter (turn p) s k), turns_le p s k, suc-mul k (numbers p + 2))
