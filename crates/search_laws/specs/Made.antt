-- Which projection made the decision that the search ends in: the seed's, or that of the trial last taken. Definitions only.
use Rattle.std.specs.Prelude.{◌≡◌, List, ℕ, ◌<◌, ◌≤◌, Float}
use Rattle.common.specs.Iter.{iter}
use Rattle.problem.specs.declared.CheckedProblem.{CheckedProblem}
use Rattle.residuals.specs.Residuals.{residuals_of}
use Rattle.elimination.specs.Elimination.{Solved}
use Rattle.scvx.specs.Search as Search
use Rattle.scvx.specs.Search.{Formed}
use Rattle.scvx.specs.declared.Candidate.{Candidate}
use Rattle.scvx.specs.declared.SearchState.{SearchState}

-- the search after n iterations
abbrev pub state_at : CheckedProblem → List Float → ℕ → SearchState
state_at p seed n = iter (Search.turn p) (Search.start p seed) n

-- the step that the search takes from the state s is d: it solves the normal equations of the Jacobian at its decision, with its damping factor
pub record StepsBy (p : CheckedProblem) (s : SearchState) (d : List Float) : Type 0 where
  pub columns : List (List Float)
  pub jacobian_is : Search.jacobian p s.candidate.z (residuals_of p s.candidate.z).r ≡ Formed columns
  pub solves : Search.step_of p columns (residuals_of p s.candidate.z).r s.lambda ≡ Solved d

-- of n iterations the one after k others took the trial c of its step, and no later one took another
pub record LastTaken (p : CheckedProblem) (seed : List Float) (n : ℕ) (c : Candidate) : Type 0 where
  pub k : ℕ
  pub within : k < n
  pub d : List Float
  pub step : StepsBy p (state_at p seed k) d
  pub is : c ≡ Search.candidate_of p (state_at p seed k).candidate.z d
  pub stays : (j : ℕ) → k < j → j ≤ n → (state_at p seed j).candidate ≡ c

-- the candidate of n iterations is the seed's, or the trial last taken
pub data Made (p : CheckedProblem) (seed : List Float) (n : ℕ) (c : Candidate) : Type 0 where
  by_seed : c ≡ (Search.start p seed).candidate → Made p seed n c
  by_trial : LastTaken p seed n c → Made p seed n c
