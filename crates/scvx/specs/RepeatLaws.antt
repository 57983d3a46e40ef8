-- An iteration reads of a state its decision, its damping factor and its status, and only adds to its counts. So an iteration that leaves those three as they were is
-- repeated by every one after it. At the strongest damping that is so where the damping stays: a trial that is taken weakens it. Assumes nothing.
use Prim.Native.Nat.{ℕ, zero, suc, ◌+◌, ◌*◌, ◌-◌, ◌≤◌}
use Rattle.std.proofs.Common.{suc-mul, arith, sym, ◌∙◌, Ok, Err}
use Rattle.std.specs.Prelude.{◌≡◌, refl, Bool, true, false}
use Rattle.std.proofs.Math.Path.{ap}
use Rattle.std.proofs.Math.Bool.{cond}
use mathlib.Core.List.{List}
use Rattle.std.specs.Float.Ieee.{Float, lt, le, mul, of_bits, round, units, odd, size}
use Rattle.common.specs.Iter.{iter}
use Rattle.common.specs.IterLaws.{iter_next}
use Rattle.float.specs.Ops as Ops
use Rattle.problem.specs.declared.CheckedProblem.{CheckedProblem}
use Rattle.residuals.specs.Residuals.{residuals_of}
use Rattle.residuals.specs.declared.ResidualVector.{ResidualVector}
use Rattle.elimination.specs.Elimination.{Solution, Solved, Singular}
use Rattle.scvx.specs.declared.Status.{Status}
use Rattle.scvx.specs.declared.Status.TheVariants.{Going, Ended, Refused}
use Rattle.scvx.specs.declared.Candidate.{Candidate}
use Rattle.scvx.specs.declared.SearchState.{SearchState}
use Rattle.scvx.specs.Search.{numbers, width, length_of, trial_candidate, Columns, Formed, Broken, jacobian, count_runs_value, with_status, with_damping, move_to, strongest, weaker, stronger, judge, try_step_by, trial_of, trial_held, try_step, step_of, take_step_by, take_step, linear_step_by, linear_step, goal, improved, iterate_by, begin_iteration, iterate, turn}
use Rattle.scvx.specs.ProgressInner.{counted}
use Rattle.scvx.specs.StepLaws.{turn_going}
use Rattle.common.specs.Refusals.{Fate}

-- ---- other counts: the same iteration
module _ (d i : ℕ) where
  count_counted : (s : SearchState) (more : ℕ) → count_runs_value (counted s d i) more ≡ counted (count_runs_value s more) d i
  count_counted s more =
      let e : s.runs + d + more ≡ s.runs + more + d = omega arith in
      ap (λ runs. record { candidate = s.candidate; lambda = s.lambda; iterations = i; runs = runs; status = s.status }) e

  cond_counted : (b : Bool) (x y : SearchState) → cond b (counted x d i) (counted y d i) ≡ counted (cond b x y) d i
  cond_counted true x y = refl
  cond_counted false x y = refl

  judge_counted : (s : SearchState) (t : Candidate) → judge (counted s d i) t ≡ counted (judge s t) d i
  unfolding judge
  judge_counted s t = cond_counted (lt t.residual s.candidate.residual) (move_to s t (weaker s.lambda)) (with_damping s (stronger s.lambda))

  try_by : (p : CheckedProblem) (s : SearchState) (t : List Float) (held : List ℕ) (e : ResidualVector) (f : Fate)
      → try_step_by p (counted s d i) t held e f ≡ counted (try_step_by p s t held e f) d i
  try_by p s t held e (Ok _) = judge_counted s (trial_candidate t e.r (width p) held)
  try_by p s t held e (Err why) = refl

  try_counted : (p : CheckedProblem) (s : SearchState) (x : List Float) → try_step p (counted s d i) x ≡ counted (try_step p s x) d i
  unfolding try_step
  try_counted p s x =
      let t : List Float = trial_of p s.candidate.z x in
      let held : List ℕ = trial_held p s.candidate.z x in
      let e : ResidualVector = residuals_of p t in
      ap (λ (q : SearchState). try_step_by p q t held e e.fate) (count_counted s 1) ∙ try_by p (count_runs_value s 1) t held e e.fate

  take_by : (p : CheckedProblem) (s : SearchState) (x : Solution) → take_step_by p (counted s d i) x ≡ counted (take_step_by p s x) d i
  take_by p s (Solved x) = try_counted p s x
  take_by p s Singular = refl

  take_counted : (p : CheckedProblem) (s : SearchState) (j : List (List Float)) (r : List Float) → take_step p (counted s d i) j r ≡ counted (take_step p s j r) d i
  unfolding take_step
  take_counted p s j r = take_by p s (step_of p j r s.lambda)

  linear_by : (p : CheckedProblem) (s : SearchState) (r : List Float) (j : Columns) → linear_step_by p (counted s d i) r j ≡ counted (linear_step_by p s r j) d i
  linear_by p s r (Formed j) = ap (λ (q : SearchState). take_step p q j r) (count_counted s (numbers p)) ∙ take_counted p (count_runs_value s (numbers p)) j r
  linear_by p s r (Broken why runs) = ap (λ (q : SearchState). with_status q (Refused why)) (count_counted s runs)

  linear_counted : (p : CheckedProblem) (s : SearchState) (r : List Float) → linear_step p (counted s d i) r ≡ counted (linear_step p s r) d i
  unfolding linear_step
  linear_counted p s r = linear_by p s r (jacobian p s.candidate.z r)

  improved_counted : (p : CheckedProblem) (s : SearchState) (e : ResidualVector) → improved p (counted s d i) e ≡ counted (improved p s e) d i
  unfolding improved
  improved_counted p s e =
      ap (λ (q : SearchState). cond (le (length_of p e) goal) (with_status (counted s d i) Ended) q) (linear_counted p s e.r)
      ∙ cond_counted (le (length_of p e) goal) (with_status s Ended) (linear_step p s e.r)

  iterate_by_law : (p : CheckedProblem) (s : SearchState) (e : ResidualVector) (f : Fate) → iterate_by p (counted s d i) e f ≡ counted (iterate_by p s e f) d i
  iterate_by_law p s e (Ok _) = improved_counted p s e
  iterate_by_law p s e (Err why) = refl

-- iteration m + 1 of a state with d runs more than s does to it what iteration k + 1 does to s
iterate_counted : (p : CheckedProblem) (k m d i : ℕ) (s : SearchState) → iterate p m (counted s d i) ≡ counted (iterate p k s) d (m + 1)
unfolding iterate
iterate_counted p k m d i s =
    let e : ResidualVector = residuals_of p s.candidate.z in
    let g : s.runs + d + 1 ≡ s.runs + 1 + d = omega arith in
    let b : begin_iteration m (counted s d i) ≡ counted (begin_iteration k s) d (m + 1) =
    ap (λ runs. record { candidate = s.candidate; lambda = s.lambda; iterations = m + 1; runs = runs; status = s.status }) g in
    ap (λ (q : SearchState). iterate_by p q e e.fate) b ∙ iterate_by_law d (m + 1) p (begin_iteration k s) e e.fate

-- ---- at the strongest damping
weaker_differs : weaker strongest ≡ strongest → ⊥
unfolding lt mul Ops.max of_bits round units odd size
weaker_differs e = let z : lt (weaker strongest) strongest ≡ lt strongest strongest = ap (λ x. lt x strongest) e in let y : true ≡ false = z in let x : ◌≡◌ {A = ℕ} 0 1 = cc in absurd (omega arith)

-- where the damping is the strongest before and after, the decision stays
abbrev Stays : SearchState → SearchState → Type 0
Stays s x = s.lambda ≡ strongest → x.lambda ≡ strongest → x.candidate ≡ s.candidate

judge_stays : (s : SearchState) (t : Candidate) → Stays s (judge s t)
unfolding judge
judge_stays s t top = by (lt t.residual s.candidate.residual)
  where
    by : (b : Bool) → (cond b (move_to s t (weaker s.lambda)) (with_damping s (stronger s.lambda))).lambda ≡ strongest
        → (cond b (move_to s t (weaker s.lambda)) (with_damping s (stronger s.lambda))).candidate ≡ s.candidate
    by true e = absurd (weaker_differs (ap weaker (sym top) ∙ e))
    by false e = refl

try_stays : (p : CheckedProblem) (s : SearchState) (t : List Float) (held : List ℕ) (e : ResidualVector) (f : Fate) → Stays s (try_step_by p s t held e f)
try_stays p s t held e (Ok _) = judge_stays s (trial_candidate t e.r (width p) held)
try_stays p s t held e (Err why) = λ top x. refl

take_stays : (p : CheckedProblem) (s : SearchState) (x : Solution) → Stays s (take_step_by p s x)
unfolding try_step
take_stays p s (Solved x) =
    let t : List Float = trial_of p s.candidate.z x in
    try_stays p (count_runs_value s 1) t (trial_held p s.candidate.z x) (residuals_of p t) (residuals_of p t).fate
take_stays p s Singular = λ top x. refl

linear_stays : (p : CheckedProblem) (s : SearchState) (r : List Float) (j : Columns) → Stays s (linear_step_by p s r j)
unfolding take_step
linear_stays p s r (Formed j) = take_stays p (count_runs_value s (numbers p)) (step_of p j r s.lambda)
linear_stays p s r (Broken why runs) = λ top x. refl

iterate_by_stays : (p : CheckedProblem) (s : SearchState) (e : ResidualVector) (f : Fate) → Stays s (iterate_by p s e f)
unfolding improved linear_step
iterate_by_stays p s e (Ok _) = by (le (length_of p e) goal)
  where
    by : (b : Bool) → Stays s (cond b (with_status s Ended) (linear_step p s e.r))
    by true = λ top x. refl
    by false = linear_stays p s e.r (jacobian p s.candidate.z e.r)
iterate_by_stays p s e (Err why) = λ top x. refl

iterate_stays : (p : CheckedProblem) (k : ℕ) (s : SearchState) → Stays s (iterate p k s)
unfolding iterate
iterate_stays p k s = iterate_by_stays p (begin_iteration k s) (residuals_of p s.candidate.z) (residuals_of p s.candidate.z).fate

-- ---- the iterations that are left
state_same : (x y : SearchState) → x.candidate ≡ y.candidate → x.lambda ≡ y.lambda → x.iterations ≡ y.iterations → x.runs ≡ y.runs → x.status ≡ y.status → x ≡ y
state_same x y c l i r f =
    ap (λ z. record { candidate = z; lambda = x.lambda; iterations = x.iterations; runs = x.runs; status = x.status }) c
    ∙ ap (λ z. record { candidate = y.candidate; lambda = z; iterations = x.iterations; runs = x.runs; status = x.status }) l
    ∙ ap (λ z. record { candidate = y.candidate; lambda = y.lambda; iterations = z; runs = x.runs; status = x.status }) i
    ∙ ap (λ z. record { candidate = y.candidate; lambda = y.lambda; iterations = y.iterations; runs = z; status = x.status }) r
    ∙ ap (λ z. record { candidate = y.candidate; lambda = y.lambda; iterations = y.iterations; runs = y.runs; status = z }) f

-- what an iteration adds to the counts
module _ (p : CheckedProblem) (k : ℕ) (s : SearchState) where
  abbrev bare : SearchState
  bare = record { candidate = s.candidate; lambda = s.lambda; iterations = 0; runs = 0; status = s.status }

  from_bare : iterate p k s ≡ counted (iterate p k bare) s.runs (k + 1)
  from_bare =
      let e : s.runs ≡ 0 + s.runs = omega arith in
      ap (iterate p k) (state_same s (counted bare s.runs s.iterations) refl refl refl e refl) ∙ iterate_counted p k k s.runs s.iterations bare

  pub iterate_grows : s.runs ≤ (iterate p k s).runs
  iterate_grows = omega (arith, ap (λ (x : SearchState). x.runs) from_bare)

  iterate_numbered : (iterate p k s).iterations ≡ k + 1
  iterate_numbered = ap (λ (x : SearchState). x.iterations) from_bare

-- iteration k + 1, from s, had the strongest damping, goes on, and left it
module _ (p : CheckedProblem) (k : ℕ) (s : SearchState) (going : s.status ≡ Going) (top : s.lambda ≡ strongest)
    (on : (iterate p k s).status ≡ Going) (still : (iterate p k s).lambda ≡ strongest) where
  abbrev next : SearchState
  next = iterate p k s

  -- the runs of one iteration
  abbrev pub more : ℕ
  more = next.runs - s.runs

  left : next ≡ counted s more (k + 1)
  left =
      state_same next (counted s more (k + 1)) (iterate_stays p k s top still) (still ∙ sym top) (iterate_numbered p k s) (omega (arith, iterate_grows p k s)) (on ∙ sym going)

  -- one iteration further on
  further : (t : ℕ) → counted next (suc t * more) (k + 1 + t + 1) ≡ turn p (k + 1 + t) (counted next (t * more) (k + 1 + t))
  further t =
      let e : next.runs + t * more ≡ s.runs + suc t * more = omega (arith, iterate_grows p k s, suc-mul t more) in
      let g : counted next (t * more) (k + 1 + t) ≡ counted s (suc t * more) (k + 1 + t) =
      state_same (counted next (t * more) (k + 1 + t)) (counted s (suc t * more) (k + 1 + t)) (ap (λ (x : SearchState). x.candidate) left) (ap (λ (x : SearchState). x.lambda) left) refl e (on ∙ sym going) in
      sym (turn_going p (k + 1 + t) (counted next (t * more) (k + 1 + t)) on ∙ ap (iterate p (k + 1 + t)) g ∙ iterate_counted p k (k + 1 + t) (suc t * more) (k + 1 + t) s)

  repeated : (a : SearchState) → next ≡ iter (turn p) a (k + 1) → (t : ℕ) → counted next (t * more) (k + 1 + t) ≡ iter (turn p) a (k + 1 + t)
  repeated a h zero =
      let z : k + 1 + 0 ≡ k + 1 = omega arith in
      state_same (counted next (0 * more) (k + 1 + 0)) next refl refl (z ∙ sym (iterate_numbered p k s)) (omega arith) refl ∙ h ∙ ap (iter (turn p) a) (sym z)
  repeated a h (suc t) =
      let z : k + 1 + t + 1 ≡ k + 1 + suc t = omega arith in
      ap (λ i. counted next (suc t * more) i) (sym z) ∙ iter_next (turn p) a (k + 1 + t) (repeated a h t) (further t) ∙ ap (iter (turn p) a) z

  -- THE ITERATIONS THAT ARE LEFT REPEAT IT: up to iteration n they change the counts alone
  pub repeated_to : (a : SearchState) (n : ℕ) → k + 1 ≤ n → next ≡ iter (turn p) a (k + 1) → counted next ((n - (k + 1)) * more) n ≡ iter (turn p) a n
  repeated_to a n h e =
      let z : k + 1 + (n - (k + 1)) ≡ n = omega arith in
      ap (λ i. counted next ((n - (k + 1)) * more) i) (sym z) ∙ repeated a e (n - (k + 1)) ∙ ap (iter (turn p) a) z
