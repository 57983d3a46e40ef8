-- The answers by region, the sums that sin and cos take, and how their series end, from the reduced argument. Assumes nothing.
use Rattle.std.proofs.Common.{◌≡◌, ℕ, ◌+◌, ◌%◌, Bool, ℤ, sym, ap, ◌∙◌, ap₂}
use lib.Ieee.{Float}
use Rattle.angles.specs.declared.series.Ended.{Ended}
use Rattle.angles.specs.declared.Zone.{Zone}
use Rattle.angles.specs.Angles.{signed, scaled, quarters, rest, ring, to_float, sine_at, cosine_at, region_of, sin_by, cos_by, sin_of, cos_of}
use Rattle.angles.specs.Both.{both, both_of}
use Rattle.angles.specs.Ended.{sine_ended, cosine_ended, end_of, series_by, sine_series, cosine_series, pair, both_series}
use Rattle.angles.specs.SizesInner.{Reduced}
use Rattle.angles.specs.ReductionLaws.{mod4_next}

module _ (x : Float) {g v : Zone} (e : g ≡ region_of x) (f : g ≡ v) where
  pub sin_by_law : sin_by v x ≡ sin_of x
  unfolding sin_of
  sin_by_law = ap (λ (z : Zone). sin_by z x) (sym f ∙ e)

  pub cos_by_law : cos_by v x ≡ cos_of x
  unfolding cos_of
  cos_by_law = ap (λ (z : Zone). cos_by z x) (sym f ∙ e)

  pub both_by : both (sin_by v x) (cos_by v x) ≡ both_of x
  unfolding both_of
  both_by = ap₂ both sin_by_law cos_by_law

  pub sine_series_by : series_by v (end_of (sine_ended (rest (scaled x)))) ≡ sine_series x
  unfolding sine_series
  sine_series_by = ap (λ (z : Zone). series_by z (end_of (sine_ended (rest (scaled x))))) (sym f ∙ e)

  pub cosine_series_by : series_by v (end_of (cosine_ended (rest (scaled x)))) ≡ cosine_series x
  unfolding cosine_series
  cosine_series_by = ap (λ (z : Zone). series_by z (end_of (cosine_ended (rest (scaled x))))) (sym f ∙ e)

  pub both_series_by : pair (series_by v (end_of (sine_ended (rest (scaled x))))) (series_by v (end_of (cosine_ended (rest (scaled x))))) ≡ both_series x
  unfolding both_series
  both_series_by = ap₂ pair sine_series_by cosine_series_by

module _ {x : Float} {q u : ℕ} {b : Bool} (t : Reduced x q b u) {y : Float} where
  pub sine_at_law : y ≡ to_float (ring q (signed b u)) → y ≡ to_float (sine_at (scaled x))
  sine_at_law e = e ∙ ap to_float (ap₂ ring t.quarter t.rests)

  pub cosine_at_law : y ≡ to_float (ring ((q + 1) % 4) (signed b u)) → y ≡ to_float (cosine_at (scaled x))
  cosine_at_law e = e ∙ ap to_float (ap₂ ring (ap (λ (k : ℕ). (k + 1) % 4) t.quarter ∙ sym (mod4_next (quarters (scaled x)))) t.rests)

-- a series at the rest
module _ {x : Float} {q u : ℕ} {b : Bool} (t : Reduced x q b u) {e : Ended} where
  pub sine_ends : ((b : Bool) → e ≡ end_of (sine_ended (signed b u))) → e ≡ end_of (sine_ended (rest (scaled x)))
  sine_ends f = f b ∙ ap (λ (r : ℤ). end_of (sine_ended r)) t.rests

  pub cosine_ends : ((b : Bool) → e ≡ end_of (cosine_ended (signed b u))) → e ≡ end_of (cosine_ended (rest (scaled x)))
  cosine_ends f = f b ∙ ap (λ (r : ℤ). end_of (cosine_ended r)) t.rests
