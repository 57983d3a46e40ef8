-- What every part of the search keeps, the search keeps: one traversal of its definition, over any property of its state. Assumes nothing.
use Rattle.std.specs.Prelude.{◌≡◌, Bool, true, false, cond, List, T, Float, Ok, Err}
use Rattle.std.proofs.Math.Path.{refl}
use Prim.Native.Nat.{ℕ, zero, suc, ◌+◌}
use Rattle.std.specs.Float.Ieee.{lt, le}
use Rattle.common.specs.Iter.{iter}
use Rattle.problem.specs.declared.CheckedProblem.{CheckedProblem}
use Rattle.forward.specs.Runs.{run_of}
use Rattle.residuals.specs.Residuals.{residuals_of}
use Rattle.residuals.specs.declared.ResidualVector.{ResidualVector}
use Rattle.elimination.specs.Elimination.{Solution, Solved, Singular}
use Rattle.scvx.specs.Search as Search
use Rattle.scvx.specs.Search.{Columns, Formed, Broken}
use Rattle.scvx.specs.declared.Status.{Status}
use Rattle.scvx.specs.declared.Status.TheVariants.{Going, Ended, Refused}
use Rattle.scvx.specs.declared.SearchState.{SearchState}
use Rattle.scvx.specs.declared.Found.{Found}
use Rattle.run_laws.specs.Values.{goes}
use Rattle.common.specs.Refusals.{Fate}

-- A property of the state that each part keeps: runs counted, an end, another damping factor, an iteration begun, and a trial of a strictly smaller length taken.
pub record Kept (p : CheckedProblem) (Q : SearchState → Type 0) : Type 0 where
  pub ran : (s : SearchState) (n : ℕ) → Q s → Q (Search.count_runs_value s n)
  pub ended : (s : SearchState) (f : Status) → Q s → Q (Search.with_status s f)
  pub damped : (s : SearchState) (x : Float) → Q s → Q (Search.with_damping s x)
  pub begun : (k : ℕ) (s : SearchState) → Q s → Q (Search.begin_iteration k s)
  pub moved : (s : SearchState) (d : List Float) (y : Float) → Q s → T (lt (Search.residual_length p (Search.trial_of p s.candidate.z d)) s.candidate.residual)
      → Q (Search.move_to s (Search.candidate_of p s.candidate.z d) y)

module _ (p : CheckedProblem) (Q : SearchState → Type 0) (K : Kept p Q) where
  judge : (s : SearchState) (d : List Float) (y u : Float) (b : Bool) → (T b → T (lt (Search.residual_length p (Search.trial_of p s.candidate.z d)) s.candidate.residual)) → Q s
      → Q (cond b (Search.move_to s (Search.candidate_of p s.candidate.z d) y) (Search.with_damping s u))
  judge s d y u true h q = K.moved s d y q (h tt)
  judge s d y u false h q = K.damped s u q

  judge_keeps : (s : SearchState) (d : List Float) → Q s → Q (Search.judge s (Search.candidate_of p s.candidate.z d))
  unfolding Search.judge
  judge_keeps s d q = judge s d _ _ (lt (Search.residual_length p (Search.trial_of p s.candidate.z d)) s.candidate.residual) (λ h. h) q

  try_step_by_keeps : (s : SearchState) (d : List Float) (f : Fate) → Q s → Q (Search.try_step_by p s (Search.trial_of p s.candidate.z d) (Search.trial_held p s.candidate.z d) (residuals_of p (Search.trial_of p s.candidate.z d)) f)
  try_step_by_keeps s d (Ok _) q = judge_keeps s d q
  try_step_by_keeps s d (Err why) q = K.ended s (Refused why) q

  try_step_keeps : (s : SearchState) (d : List Float) → Q s → Q (Search.try_step p s d)
  unfolding Search.try_step
  try_step_keeps s d q = try_step_by_keeps (Search.count_runs_value s 1) d (residuals_of p (Search.trial_of p s.candidate.z d)).fate (K.ran s 1 q)

  take_step_by_keeps : (s : SearchState) (x : Solution) → Q s → Q (Search.take_step_by p s x)
  take_step_by_keeps s (Solved d) q = try_step_keeps s d q
  take_step_by_keeps s Singular q = K.damped s _ q

  take_step_keeps : (s : SearchState) (j : List (List Float)) (r : List Float) → Q s → Q (Search.take_step p s j r)
  unfolding Search.take_step
  take_step_keeps s j r q = take_step_by_keeps s (Search.step_of p j r s.lambda) q

  linear_step_by_keeps : (s : SearchState) (r : List Float) (j : Columns) → Q s → Q (Search.linear_step_by p s r j)
  linear_step_by_keeps s r (Formed j) q = take_step_keeps (Search.count_runs_value s (Search.numbers p)) j r (K.ran s (Search.numbers p) q)
  linear_step_by_keeps s r (Broken why runs) q = K.ended (Search.count_runs_value s runs) (Refused why) (K.ran s runs q)

  linear_step_keeps : (s : SearchState) (r : List Float) → Q s → Q (Search.linear_step p s r)
  unfolding Search.linear_step
  linear_step_keeps s r q = linear_step_by_keeps s r (Search.jacobian p s.candidate.z r) q

  either : (b : Bool) (x y : SearchState) → Q x → Q y → Q (cond b x y)
  either true x y h k = h
  either false x y h k = k

  improved_keeps : (s : SearchState) (e : ResidualVector) → Q s → Q (Search.improved p s e)
  unfolding Search.improved
  improved_keeps s e q = either (le (Search.length_of p e) Search.goal) (Search.with_status s Ended) (Search.linear_step p s e.r) (K.ended s Ended q) (linear_step_keeps s e.r q)

  iterate_by_keeps : (s : SearchState) (e : ResidualVector) (f : Fate) → Q s → Q (Search.iterate_by p s e f)
  iterate_by_keeps s e (Ok _) q = improved_keeps s e q
  iterate_by_keeps s e (Err why) q = K.ended s (Refused why) q

  turn_by_keeps : (k : ℕ) (s : SearchState) (f : Status) → Q s → Q (Search.turn_by_value p k s f)
  unfolding Search.iterate
  turn_by_keeps k s Going q = iterate_by_keeps (Search.begin_iteration k s) (residuals_of p s.candidate.z) (residuals_of p s.candidate.z).fate (K.begun k s q)
  turn_by_keeps k s Ended q = q
  turn_by_keeps k s (Refused why) q = q

  turns_keep : (s : SearchState) (k : ℕ) → Q s → Q (iter (Search.turn p) s k)
  unfolding iter Search.turn
  turns_keep s zero q = q
  turns_keep s (suc k) q = turn_by_keeps k (iter (Search.turn p) s k) (iter (Search.turn p) s k).status (turns_keep s k q)

  -- KEPT by the whole search: what holds of its start holds of the state that it ends in
  pub searched_keeps : (seed : List Float) → Q (Search.start p seed) → Q (Search.searched p seed)
  unfolding Search.searched
  searched_keeps seed q = turns_keep (Search.start p seed) 40 q

-- ---- what the search answers, from the state that it ends in: one run more, of the decision, and that run goes on
pub record Gone (p : CheckedProblem) (s : SearchState) (f : Found) : Type 0 where
  pub z : f.z ≡ s.candidate.z
  pub runs : f.runs ≡ s.runs + 1
  pub run : f.run ≡ run_of p s.candidate.z
  pub tried : f.tried ≡ s.candidate.tried
  pub held : f.held ≡ s.candidate.held
  pub went : T (goes (run_of p s.candidate.z).fate)

module _ (p : CheckedProblem) (s : SearchState) where
  last_gone : (e : Fate) → (run_of p s.candidate.z).fate ≡ e → T (goes (Search.final_run_by s (run_of p s.candidate.z) e).fate) → Gone p s (Search.final_run_by s (run_of p s.candidate.z) e)
  last_gone (Ok _) h t = record { z = refl; runs = refl; run = refl; tried = refl; held = refl; went = rw h tt }
  last_gone (Err why) h t = absurd t

  closed_gone : (f : Status) → T (goes (Search.conclude_by p s f).fate) → Gone p s (Search.conclude_by p s f)
  unfolding Search.final_run
  closed_gone Going t = last_gone (run_of p s.candidate.z).fate refl t
  closed_gone Ended t = last_gone (run_of p s.candidate.z).fate refl t
  closed_gone (Refused why) t = absurd t

pub search_gone : (p : CheckedProblem) (seed : List Float) → T (goes (Search.search p seed).fate) → Gone p (Search.searched p seed) (Search.search p seed)
unfolding Search.search Search.conclude
search_gone p seed t = closed_gone p (Search.searched p seed) (Search.searched p seed).status t
