-- Where the search answers, its first run, that of the seed's decision, had residuals: a refusal of it stays to the end. Assumes nothing.
use Rattle.std.specs.Prelude.{◌≡◌, List, ℕ, T, Float, Ok, Err}
use Rattle.std.proofs.Math.Path.{refl}
use Rattle.std.proofs.Common.{arith}
use Rattle.common.specs.IterLaws.{iter_none, iter_stays}
use Rattle.problem.specs.declared.CheckedProblem.{CheckedProblem}
use Rattle.residuals.specs.Residuals.{residuals_of}
use Rattle.scvx.specs.Search as Search
use Rattle.scvx.specs.declared.Status.TheVariants.{Refused}
use Rattle.scvx.specs.declared.SearchState.{SearchState}
use Rattle.run_laws.specs.Values.{goes}
use Rattle.common.specs.Refusals.{Fate}
use Rattle.common.specs.declared.Refusal.{Refusal}

module _ (p : CheckedProblem) (why : Refusal) where
  stays : (s : SearchState) → s.status ≡ Refused why → (k : ℕ) → Search.turn p k s ≡ s
  unfolding Search.turn
  stays s e k = rw e refl

  closes : (s : SearchState) → s.status ≡ Refused why → T (goes (Search.conclude p s).fate) → ⊥
  unfolding Search.conclude
  closes s e t = rw e at t

  start_refused : (seed : List Float) → (residuals_of p seed).fate ≡ Err why → (Search.start p seed).status ≡ Refused why
  unfolding Search.start
  start_refused seed e = rw e refl

  search_refused : (seed : List Float) → (residuals_of p seed).fate ≡ Err why → T (goes (Search.search p seed).fate) → ⊥
  unfolding Search.search Search.searched
  search_refused seed e t =
      let s : Search.start p seed ≡ Search.searched p seed = iter_stays (Search.turn p) (Search.start p seed) 0 40 (omega arith) (iter_none (Search.turn p) (Search.start p seed)) (stays (Search.start p seed) (start_refused seed e)) in
      closes (Search.start p seed) (start_refused seed e) (rw (← s) at t)

-- THE SEED'S RESIDUALS are there, where the search answers
pub seed_measured : (p : CheckedProblem) (seed : List Float) → T (goes (Search.search p seed).fate) → T (goes (residuals_of p seed).fate)
seed_measured p seed t = go (residuals_of p seed).fate refl
  where
    go : (e : Fate) → (residuals_of p seed).fate ≡ e → T (goes e)
    go (Ok _) e = tt
    go (Err why) e = absurd (search_refused p why seed e t)
