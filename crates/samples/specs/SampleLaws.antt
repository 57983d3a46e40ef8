-- A sample by what code works out on its way: the walk along the nodes, the cases of a time, the parts between two nodes. Assumes nothing.
use Rattle.std.specs.Prelude.{◌≡◌, ℕ, ◌+◌, ◌<◌, ◌≤◌, Bool, true, false, ◌||◌, List, nat_lt, refl, Float, Some, None}
use Rattle.std.proofs.Common.{lt→ltb}
use Rattle.std.proofs.Math.Arith.{le→nltb}
use Rattle.std.specs.Float.{binary64}
use Rattle.std.specs.Float.Ieee.{sub, div, lt, le, eq}
use Rattle.std.specs.Float.Ieee.Bits.{is_true, is_false}
use Rattle.common.specs.Iter.{iter}
use Rattle.common.specs.IterLaws.{iter_next, iter_stays}
use Rattle.geom.specs.Vec.{euler_lhs}
use Rattle.geom.specs.declared.Quat.{Quat}
use Rattle.samples.specs.Counts.{sample_count}
use Rattle.samples.specs.Samples.{time, attitude, rate, momentum, refused, at_node, mean, rate_change, rotation, turned, between, onward, earlier, interpolate, time_of, sample}

-- the walk stands at node i after i steps
module _ (nodes : List (List Float)) (t : Float) (i : ℕ) {x : Float} (p : i ≡ iter (onward nodes t) 0 i) (q : x ≡ time nodes (i + 1)) where
  pub walks : lt x t ≡ true → i + 1 ≡ iter (onward nodes t) 0 (i + 1)
  walks h = iter_next (onward nodes t) 0 i p (rw (← q, h))

  pub stops : lt x t ≡ false → i ≤ 16 → i ≡ earlier nodes t
  unfolding earlier
  stops h k = iter_stays (onward nodes t) 0 i 16 k p (λ j. rw (← q, h))

-- what is not at most y is not below it
pub not_below : (x y : Float) → le x y ≡ false → lt x y ≡ false
unfolding le
not_below x y h = by (lt x y) (eq x y) h
  where
    by : (a b : Bool) → a || b ≡ false → a ≡ false
    by true b h = h
    by false b h = refl

module _ (j : List (List Float)) (tol : Float) (nodes : List (List Float)) where
  -- ---- between node i and the next
  module _ (i : ℕ) (t : Float) (index : ℕ) {t0 t1 : Float} {w0 w1 w h0 h1 h wd tau v : List Float} {q : Quat} (a : t0 ≡ time nodes i) (b : t1 ≡ time nodes (i + 1)) (c : w0 ≡ rate nodes i) (d : w1 ≡ rate nodes (i + 1))
      (e : w ≡ mean w0 w1 (div binary64 (sub binary64 t t0) (sub binary64 t1 t0))) (f : h0 ≡ momentum nodes i) (g : h1 ≡ momentum nodes (i + 1)) (k : h ≡ mean h0 h1 (div binary64 (sub binary64 t t0) (sub binary64 t1 t0)))
      (l : wd ≡ rate_change w0 w1 (sub binary64 t1 t0)) (m : tau ≡ euler_lhs j wd w h) (n : q ≡ attitude nodes i) (o : v ≡ rotation w0 wd (sub binary64 t t0)) where
    pub between_is : turned tol (record { t = t; q = q; w = w; tau = tau; h = h }) v index ≡ between j tol nodes i t index
    unfolding between
    between_is = rw (o, n, m, l, k, g, f, e, d, c, b, a)

  -- ---- at the time t
  module _ (t : Float) (index : ℕ) {a : Float} (p : a ≡ time nodes 0) where
    pub at_first : le t a ≡ true → at_node nodes 0 t ≡ interpolate j tol nodes t index
    unfolding interpolate
    at_first h = rw (← p, h)

    module _ {b : Float} (n : le t a ≡ false) (q : b ≡ time nodes 16) where
      pub at_last : le b t ≡ true → at_node nodes 16 t ≡ interpolate j tol nodes t index
      unfolding interpolate
      at_last h = rw (← p, n, ← q, h)

      pub amid : {i : ℕ} → le b t ≡ false → i ≡ earlier nodes t → between j tol nodes i t index ≡ interpolate j tol nodes t index
      unfolding interpolate
      amid h e = rw (← p, n, ← q, h, e)

  -- ---- sample number index
  module _ (duration : Float) (requested : ℕ) (alpha : Float) (index : ℕ) where
    pub too_many : sample_count duration requested alpha ≡ None → refused 20 0 ≡ sample j tol duration nodes requested alpha index
    unfolding sample
    too_many e = rw e

    module _ {n : ℕ} (e : sample_count duration requested alpha ≡ Some n) where
      pub in_count : index < n → interpolate j tol nodes (time_of duration n index) index ≡ sample j tol duration nodes requested alpha index
      unfolding sample
      in_count h = rw (e, is_true (nat_lt index n) (lt→ltb index n h))

      pub past_count : n ≤ index → refused 20 1 ≡ sample j tol duration nodes requested alpha index
      unfolding sample
      past_count h = rw (e, is_false (nat_lt index n) (le→nltb index n h))
