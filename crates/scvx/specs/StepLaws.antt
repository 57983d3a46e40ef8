-- The parts of an iteration and of the whole search, by what the code has in hand. Assumes nothing.
use Rattle.std.specs.Prelude.{ℕ, ◌+◌, ◌*◌, ◌≤◌, ◌≡◌, Bool, true, false, List, ◌++◌, length, take, drop, Float, Err}
use Rattle.std.proofs.Math.Path.{refl, ap, sym}
use Rattle.std.proofs.Common.{subst, ◌∙◌, arith, length-take-le, take-take}
use Rattle.std.proofs.Math.Bool.{cond}
use Rattle.std.proofs.lemmas.List.{take-append-le}
use Rattle.std.specs.Float.Ieee.{lt, le}
use Rattle.common.specs.Iter.{iter}
use Rattle.common.specs.IterLaws.{iter_none, iter_stays}
use Rattle.problem.specs.declared.CheckedProblem.{CheckedProblem}
use Rattle.forward.specs.Runs.{run_of}
use Rattle.forward.specs.declared.Run.{Run}
use Rattle.residuals.specs.Residuals.{residuals_of}
use Rattle.residuals.specs.declared.ResidualVector.{ResidualVector}
use Rattle.normal_equations.specs.Rows.{rows}
use Rattle.elimination.specs.Elimination.{Solution, told, damped_step}
use Rattle.damped_steps.specs.Gram.{GramKept}
use Rattle.kept_rows.specs.Kept.{Laid, kept, Gathered, Zeros}
use Rattle.kept_rows.specs.KeptLaws.{gram_kept, matrix_kept, right_kept}
use Rattle.scvx.specs.declared.Status.{Status}
use Rattle.scvx.specs.declared.Status.TheVariants.{Going, Ended, Refused}
use Rattle.scvx.specs.declared.Candidate.{Candidate}
use Rattle.scvx.specs.declared.SearchState.{SearchState}
use Rattle.scvx.specs.Search.{numbers, width, Columns, Formed, Broken, jacobian, count_runs_value, with_status, with_damping, move_to, stiffer, weaker, stronger, judge, try_step, take_step_by, take_step, linear_step_by, linear_step, goal, improved, iterate_by, begin_iteration, iterate, turn_by_value, turn, status_of, start_of, start, searched, not_found, final_run_by, final_run, conclude_by, conclude, search}
use Rattle.scvx.specs.ProgressInner.{Standing, columns_in}
use Rattle.scvx.specs.ProgressInner as ProgressInner
use Rattle.common.specs.Refusals.{Fate, going}
use Rattle.common.specs.declared.Refusal.{Refusal}

-- ---- the step of the equations, on a front of the workspace: w is the length of the lent right side
module _ (w n m : ℕ) (v : List Float) (e : w ≡ n) (fits : n * m + n * n ≤ length v) where
  inside : take (n * m) (take (n * m + n * n) v) ≡ take (n * m) v
  inside = take-take (n * m) (n * m + n * n) v (omega arith)

  pub told_front : (b : Bool) (d r : List Float) (x : Float) → told b d ≡ damped_step w m (rows w m (take (w * m) (take (n * m + n * n) v))) r x → told b d ≡ damped_step n m (rows n m (take (n * m) v)) r x
  told_front b d r x h = subst (λ k. told b d ≡ damped_step k m (rows k m (take (k * m) (take (n * m + n * n) v))) r x) e h ∙ ap (λ u. damped_step n m (rows n m u) r x) inside

  -- the columns are what they were
  pub kept_front : (u : List Float) → length u ≡ length (take (n * m + n * n) v) → take (w * m) u ≡ take (w * m) (take (n * m + n * n) v) → take (n * m) (u ++ drop (n * m + n * n) v) ≡ take (n * m) v
  kept_front u l h =
      take-append-le (n * m) u (drop (n * m + n * n) v) (omega (arith, length-take-le (n * m + n * n) v fits))
      ∙ subst (λ k. take (k * m) u ≡ take (k * m) (take (n * m + n * n) v)) e h
      ∙ inside

  -- a Gram matrix that is kept
  pub gram_front : (a : List Float) → GramKept n m (rows n m (take (n * m) v)) a → GramKept w m (rows w m (take (w * m) (take (n * m + n * n) v))) a
  gram_front a h = subst (λ k. GramKept k m (rows k m (take (k * m) (take (n * m + n * n) v))) a) (sym e) (subst (λ u. GramKept n m (rows n m u) a) (sym inside) h)

  pub gram_whole : (a : List Float) → GramKept n m (rows n m (take (n * m) (take (n * m + n * n) v))) a → GramKept n m (rows n m (take (n * m) v)) a
  gram_whole a h = subst (λ u. GramKept n m (rows n m u) a) inside h

-- the Gram matrix of the kept rows is that of all rows
module _ (n m : ℕ) (v a : List Float) (l : Laid m) where
  pub gram_of_kept : GramKept n m (columns_in n m v) a → GramKept n (kept m) (rows n (kept m) (take (n * kept m) v)) a
  gram_of_kept h room = h room ∙ gram_kept n m (take (n * kept m) v) l

  pub gram_of_all : GramKept n (kept m) (rows n (kept m) (take (n * kept m) v)) a → GramKept n m (columns_in n m v) a
  gram_of_all h room = h room ∙ sym (gram_kept n m (take (n * kept m) v) l)

-- the step of the kept rows is that of all rows
pub step_kept : (n m : ℕ) (v r x : List Float) (lambda : Float) → Laid m → Gathered m r x → Zeros m r
    → damped_step n (kept m) (rows n (kept m) (take (n * kept m) v)) x lambda ≡ damped_step n m (columns_in n m v) r lambda
unfolding damped_step
step_kept n m v r x lambda l g z = rw (matrix_kept n m (take (n * kept m) v) l lambda, right_kept n m (take (n * kept m) v) l r x g z)

module _ (p : CheckedProblem) (s : SearchState) (n m : ℕ) (j : List (List Float)) (r : List Float) (en : n ≡ numbers p) (em : m ≡ width p) where
  -- the step, by what the equations give
  pub by_solution : {x : Solution} → x ≡ damped_step n m j r s.lambda → take_step_by p s x ≡ take_step p s j r
  unfolding take_step damped_step
  by_solution e = rw (← en, ← em) (ap (λ (x : Solution). take_step_by p s x) e)

-- ---- the verdict on a trial
module _ (s : SearchState) (t : Candidate) where
  pub judge_taken : lt t.residual s.candidate.residual ≡ true → move_to s t (weaker s.lambda) ≡ judge s t
  unfolding judge
  judge_taken h = sym (ap (λ b. cond b (move_to s t (weaker s.lambda)) (with_damping s (stronger s.lambda))) h)

  pub judge_left : lt t.residual s.candidate.residual ≡ false → with_damping s (stronger s.lambda) ≡ judge s t
  unfolding judge
  judge_left h = sym (ap (λ b. cond b (move_to s t (weaker s.lambda)) (with_damping s (stronger s.lambda))) h)

-- ---- the columns
module _ (p : CheckedProblem) (s : SearchState) (r : List Float) where
  pub linear_step_formed : {n : ℕ} {j : List (List Float)} → n ≡ numbers p → jacobian p s.candidate.z r ≡ Formed j → take_step p (count_runs_value s n) j r ≡ linear_step p s r
  unfolding linear_step
  linear_step_formed {n} {j} en e = ap (λ k. take_step p (count_runs_value s k) j r) en ∙ sym (ap (λ (x : Columns). linear_step_by p s r x) e)

  pub linear_step_broken : {why : Refusal} {runs : ℕ} → jacobian p s.candidate.z r ≡ Broken why runs → with_status (count_runs_value s runs) (Refused why) ≡ linear_step p s r
  unfolding linear_step
  linear_step_broken e = sym (ap (λ (x : Columns). linear_step_by p s r x) e)

-- ---- an iteration whose decision's residuals are known
module _ (p : CheckedProblem) (k : ℕ) (s : SearchState) {r : List Float} {columns : Bool} {j : List (List Float)} {a : List Float} (h : Standing p s.candidate r columns j a) where
  by_length : iterate p k s ≡ cond (le s.candidate.residual goal) (with_status (begin_iteration k s) Ended) (linear_step p (begin_iteration k s) r)
  unfolding iterate improved
  by_length = ap (λ (f : Fate). iterate_by p (begin_iteration k s) (residuals_of p s.candidate.z) f) h.known.answers.goes ∙ rw (h.known.answers.are, ← h.known.long)

  pub iterate_ends : le s.candidate.residual goal ≡ true → with_status (begin_iteration k s) Ended ≡ iterate p k s
  iterate_ends e = sym (by_length ∙ ap (λ b. cond b (with_status (begin_iteration k s) Ended) (linear_step p (begin_iteration k s) r)) e)

  pub iterate_on : le s.candidate.residual goal ≡ false → linear_step p (begin_iteration k s) r ≡ iterate p k s
  iterate_on e = sym (by_length ∙ ap (λ b. cond b (with_status (begin_iteration k s) Ended) (linear_step p (begin_iteration k s) r)) e)

-- ---- a turn, by the status
module _ (p : CheckedProblem) (k : ℕ) (s : SearchState) where
  pub turn_going : s.status ≡ Going → turn p k s ≡ iterate p k s
  unfolding turn
  turn_going h = ap (λ (f : Status). turn_by_value p k s f) h

  pub turn_ended : s.status ≡ Ended → turn p k s ≡ s
  unfolding turn
  turn_ended h = ap (λ (f : Status). turn_by_value p k s f) h

  pub turn_refused : {why : Refusal} → s.status ≡ Refused why → turn p k s ≡ s
  unfolding turn
  turn_refused h = ap (λ (f : Status). turn_by_value p k s f) h

-- ---- the whole

module _ (p : CheckedProblem) (s : SearchState) where
  pub conclude_going : s.status ≡ Going → final_run p s ≡ conclude p s
  unfolding conclude
  conclude_going h = sym (ap (λ (f : Status). conclude_by p s f) h)

  pub conclude_ended : s.status ≡ Ended → final_run p s ≡ conclude p s
  unfolding conclude
  conclude_ended h = sym (ap (λ (f : Status). conclude_by p s f) h)

  pub conclude_refused : {why : Refusal} → s.status ≡ Refused why → not_found why s.runs ≡ conclude p s
  unfolding conclude
  conclude_refused h = sym (ap (λ (f : Status). conclude_by p s f) h)

  -- the last run, by its fate
  pub final_run_by_law : {x : Run} {f : Fate} → x ≡ run_of p s.candidate.z → x.fate ≡ f → final_run_by s x f ≡ final_run p s
  unfolding final_run
  final_run_by_law {x} q h = sym (ap (λ (f : Fate). final_run_by s x f) h) ∙ ap (λ (y : Run). final_run_by s y y.fate) q

module _ (p : CheckedProblem) (seed : List Float) {e : ResidualVector} (q : e ≡ residuals_of p seed) where
  pub start_going : {m : ℕ} → m ≡ width p → e.fate ≡ going → (ProgressInner.start m seed e.r).state ≡ start p seed
  unfolding start
  start_going {m} em g = let here : (ProgressInner.start m seed e.r).state ≡ start_of p seed e = rw (g, em) in here ∙ ap (λ (x : ResidualVector). start_of p seed x) q

  refused_start : {why : Refusal} → e.fate ≡ Err why → (start p seed).status ≡ Refused why
  unfolding start
  refused_start g = ap (λ (x : ResidualVector). (start_of p seed x).status) (sym q) ∙ ap status_of g

  one_run : (start p seed).runs ≡ 1
  unfolding start
  one_run = refl

  -- a seed whose run is refused ends the search before its first iteration
  pub search_refused : {why : Refusal} → e.fate ≡ Err why → not_found why 1 ≡ search p seed
  unfolding search searched
  search_refused {why} g =
      let r = refused_start g in
      let same : start p seed ≡ iter (turn p) (start p seed) 40 = iter_stays (turn p) (start p seed) 0 40 (omega arith) (iter_none (turn p) (start p seed)) (λ j. turn_refused p j (start p seed) r) in
      sym (ap (λ k. not_found why k) one_run) ∙ conclude_refused p (start p seed) r ∙ ap (λ (s : SearchState). conclude p s) same
