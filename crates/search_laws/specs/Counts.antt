-- How many forward runs the search begins: at least one, and at most 40 × (16 × controls + 3) + 2. Assumes nothing.
use Rattle.std.specs.Prelude.{List, ◌+◌, ◌*◌, ◌≤◌, Float, Ok, Err}
use Rattle.std.proofs.Common.{le_refl}
use native.Mathlib.Omega.{arith}
use Rattle.actuators.specs.Maps.{control_dim}
use Rattle.problem.specs.declared.CheckedProblem.{CheckedProblem}
use Rattle.forward.specs.Runs.{run_of}
use Rattle.scvx.specs.CountLaws.{turns_le}
use Rattle.scvx.specs.Search as Search
use Rattle.scvx.specs.declared.Status.{Status}
use Rattle.scvx.specs.declared.Status.TheVariants.{Going, Ended, Refused}
use Rattle.scvx.specs.declared.SearchState.{SearchState}
use Rattle.search_laws.specs.Keeps.{Kept, searched_keeps}
use Rattle.common.specs.Refusals.{Fate}

-- ---- at least one
some_kept : (p : CheckedProblem) → Kept p (λ s. 1 ≤ s.runs)
some_kept p = record { ran = λ s n q. omega arith; ended = λ s f q. q; damped = λ s x q. q; begun = λ k s q. omega arith; moved = λ s d y q h. q }

last_some : (s : SearchState) (p : CheckedProblem) (e : Fate) → 1 ≤ (Search.final_run_by s (run_of p s.candidate.z) e).runs
last_some s p (Ok _) = omega arith
last_some s p (Err why) = omega arith

closed_some : (p : CheckedProblem) (s : SearchState) (f : Status) → 1 ≤ s.runs → 1 ≤ (Search.conclude_by p s f).runs
unfolding Search.final_run
closed_some p s Going h = last_some s p (run_of p s.candidate.z).fate
closed_some p s Ended h = last_some s p (run_of p s.candidate.z).fate
closed_some p s (Refused why) h = h

-- A RUN begins in every search
pub runs_least : (p : CheckedProblem) (seed : List Float) → 1 ≤ (Search.search p seed).runs
unfolding Search.search Search.conclude
runs_least p seed = closed_some p (Search.searched p seed) (Search.searched p seed).status (searched_keeps p (λ s. 1 ≤ s.runs) (some_kept p) seed (unfold Search.start in omega arith))

-- ---- at most
module _ (p : CheckedProblem) where
  last_most : (s : SearchState) (e : Fate) → (Search.final_run_by s (run_of p s.candidate.z) e).runs ≤ s.runs + 1
  last_most s (Ok _) = le_refl (s.runs + 1)
  last_most s (Err why) = le_refl (s.runs + 1)

  closed_most : (s : SearchState) (f : Status) → (Search.conclude_by p s f).runs ≤ s.runs + 1
  unfolding Search.final_run
  closed_most s Going = last_most s (run_of p s.candidate.z).fate
  closed_most s Ended = last_most s (run_of p s.candidate.z).fate
  closed_most s (Refused why) = omega arith

  searched_most : (seed : List Float) → (Search.searched p seed).runs ≤ 1 + 40 * (Search.numbers p + 2)
  unfolding Search.searched Search.start
  searched_most seed = turns_le p (Search.start p seed) 40

  -- THE COUNT of forward runs
  pub runs_most : (seed : List Float) → (Search.search p seed).runs ≤ 40 * (16 * control_dim p.map + 3) + 2
  unfolding Search.search Search.conclude Search.numbers
  runs_most seed = omega (arith, closed_most (Search.searched p seed) (Search.searched p seed).status, searched_most seed)
