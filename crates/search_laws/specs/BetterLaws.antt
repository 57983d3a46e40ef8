-- The decision that the search ends in is the seed's, or its residual length is below the seed's. Assumes nothing.
use Rattle.std.specs.Prelude.{◌≡◌, List, ℕ, zero, suc, T, Float}
use Rattle.std.proofs.Math.Path.{refl}
use Rattle.std.specs.Float.{binary64}
use Rattle.std.specs.Float.Ieee.{lt, fits, of_bits}
use Rattle.std.specs.Float.Ieee.Fits.{add-fits}
use Rattle.common.specs.Iter.{iter}
use Rattle.common.specs.Lists.{at}
use Rattle.float.specs.SqrtLaws.{sqrt_fits}
use Rattle.float_laws.specs.Order.{lt_trans}
use Rattle.problem.specs.declared.CheckedProblem.{CheckedProblem}
use Rattle.residuals.specs.Residuals.{residuals_of}
use Rattle.residuals.specs.Sums.{squares, norm_slice}
use Rattle.scvx.specs.Search as Search
use Rattle.scvx.specs.declared.SearchState.{SearchState}
use Rattle.search_laws.specs.Keeps.{Kept, searched_keeps}
use Rattle.search_laws.specs.Better.{Better, same, below}

-- the same by another name of the lengths
pub better_as : (r s : List Float → Float) (seed z : List Float) → r seed ≡ s seed → r z ≡ s z → Better r seed z → Better s seed z
better_as r s seed z e f (same h) = same h
better_as r s seed z e f (below h) = below (rw (← e, ← f) h)

-- ---- a length is an f64
squares_fit : (f : ℕ → Float) (n : ℕ) → T (fits binary64 (squares f n))
unfolding iter
squares_fit f zero = unfold fits of_bits in tt
squares_fit f (suc n) = add-fits binary64 _ _

length_fits : (p : CheckedProblem) (z : List Float) → T (fits binary64 (Search.residual_length p z))
unfolding norm_slice
length_fits p z = sqrt_fits binary64 _ (squares_fit (at (residuals_of p z).r) (Search.width p))

-- ---- a trial that is taken is shorter still
shorter : (p : CheckedProblem) (seed z t : List Float) → Better (Search.residual_length p) seed z → T (lt (Search.residual_length p t) (Search.residual_length p z)) → Better (Search.residual_length p) seed t
shorter p seed z t (same e) h = below (rw e at h)
shorter p seed z t (below k) h = below (lt_trans binary64 (Search.residual_length p t) (Search.residual_length p z) (Search.residual_length p seed) (length_fits p t) (length_fits p z) (length_fits p seed) h k)

record Way (p : CheckedProblem) (seed : List Float) (s : SearchState) : Type 0 where
  residual : s.candidate.residual ≡ Search.residual_length p s.candidate.z
  better : Better (Search.residual_length p) seed s.candidate.z

way_kept : (p : CheckedProblem) (seed : List Float) → Kept p (Way p seed)
way_kept p seed = record {
  ran = λ s n q. record { residual = q.residual; better = q.better };
  ended = λ s f q. record { residual = q.residual; better = q.better };
  damped = λ s x q. record { residual = q.residual; better = q.better };
  begun = λ k s q. record { residual = q.residual; better = q.better };
  moved = λ s d y q h. record { residual = refl; better = shorter p seed s.candidate.z (Search.trial_of p s.candidate.z d) q.better (rw q.residual at h) };
}

-- BETTER: the decision of every search
pub searched_better : (p : CheckedProblem) (seed : List Float) → Better (Search.residual_length p) seed (Search.searched p seed).candidate.z
searched_better p seed = (searched_keeps p (Way p seed) (way_kept p seed) seed (unfold Search.start in record { residual = refl; better = same refl })).better
