-- A row of +0.0 adds nothing to a sum from +0.0, which is never -0: slopes and normal equations of the gathered rows are those of all rows, bit for bit. Assumes nothing.
use Prim.Native.Nat.{ℕ, zero, suc, ◌+◌, ◌-◌, ◌<◌, ◌≤◌}
use Rattle.std.proofs.Common.{le_refl, le_trans, zero-add, suc-add, add-one, sym, subst, ◌∙◌, ⊎_elim, ltb-true, ltb-false}
use native.Mathlib.Omega.{arith}
use Rattle.std.specs.Prelude.{◌≡◌, Bool, not, eqb, Float}
use Rattle.std.proofs.Math.Path.{refl, ap}
use Rattle.std.proofs.Math.Bool.{true, false, cond}
use mathlib.Core.List.{List, [], ◌∷◌, ◌++◌}
use Rattle.std.proofs.Math.Dec.{T}
use Rattle.std.specs.Float.Ieee.{nan, binary64, add, sub, mul, div, neg, round, units, odd, sum, fits, size, of_bits}
use Rattle.std.specs.Float.Ieee.Fits.{add-fits, mul-fits}
use Rattle.common.specs.Floats.{plus_zero}
use Rattle.float_laws.specs.Zeros.{is_zero, is_minus_zero, add-zero, add_not_minus, zero_times}
use Rattle.common.specs.Iter.{iter}
use Rattle.common.specs.Lists.{at}
use Rattle.normal_equations.specs.Tab.{tab}
use Rattle.normal_equations.specs.TabLaws.{get_d_tab, tab_same}
use Rattle.normal_equations.specs.Rows.{row, rows}
use Rattle.normal_equations.specs.RowsLaws.{line_rows}
use Rattle.normal_equations.specs.Normal.{line, fd_eps, slopes, gram, damped, normal_matrix, right_side, dot}
use Rattle.normal_equations.specs.NormalLaws.{gram_sums, normal_damped, right_sums}
use Rattle.kept_rows.specs.Kept.{Laid, before_by, before, left_out, place, kept, Gathered, Zeros, scatter, columns}

-- ---- where a row stands
-- at most one more of the rows is left out before the next row
record Steady (b : Bool) (i : ℕ) : Type 0 where
  grows : before_by b i ≤ before_by b (suc i)
  by_one : before_by b (suc i) ≤ suc (before_by b i)
  within : before_by b i ≤ i

steady : (b : Bool) (i : ℕ) → Steady b i
steady true i = record { grows = omega arith; by_one = omega arith; within = omega arith }
steady false i = record { grows = omega arith; by_one = omega arith; within = omega arith }

module _ (m : ℕ) where
  place_out : (i : ℕ) → left_out m i ≡ true → place m (suc i) ≡ place m i
  place_out i h = let l : before m i < before m (suc i) = ltb-true _ _ h in let s = steady (eqb m 79) i in omega (arith, s.by_one, s.within)

  pub place_next : (i : ℕ) → left_out m i ≡ false → place m (suc i) ≡ suc (place m i)
  place_next i h = let l : before m (suc i) ≤ before m i = ltb-false _ _ h in let s = steady (eqb m 79) i in omega (arith, s.grows, s.within)

  place_suc : (i : ℕ) → place m i ≤ place m (suc i)
  place_suc i = let s = steady (eqb m 79) i in omega (arith, s.by_one, s.within)

  place_mono : (i d : ℕ) → place m i ≤ place m (d + i)
  place_mono i zero = rw (zero-add i) (le_refl (place m i))
  place_mono i (suc d) = rw (suc-add d i) (le_trans (place_mono i d) (place_suc (d + i)))

  -- a kept row stands before all that come after it
  pub place_below : (i j : ℕ) → i < j → left_out m i ≡ false → place m i < place m j
  place_below i j h k = let e : j - suc i + suc i ≡ j = omega arith in subst (λ x. place m i < place m x) e (omega (arith, place_next i k, place_mono (suc i) (j - suc i)))

-- the kept rows are as many as `kept` says
pub place_kept : (m : ℕ) → Laid m → place m m ≡ kept m
place_kept m h = ⊎_elim (λ e. rw e refl) (λ e. rw e refl) h

pub kept_most : (m : ℕ) → Laid m → kept m ≤ m
kept_most m h = omega (arith, place_kept m h)

pub laid_most : {m : ℕ} → Laid m → m ≤ 79
laid_most h = ⊎_elim (λ e. omega arith) (λ e. omega arith) h

-- ---- sums
module _ (p q : List Float) where
  -- a sum from +0.0 is never -0
  dot_plain : (k : ℕ) → T (not (is_minus_zero (dot k p q))) × T (fits binary64 (dot k p q))
  unfolding iter of_bits fits
  dot_plain zero = (tt, tt)
  dot_plain (suc k) =
      let h = dot_plain k in
      (add_not_minus (dot k p q) (mul binary64 (at p k) (at q k)) h.1 (mul-fits binary64 (at p k) (at q k)) h.0, add-fits binary64 (dot k p q) (mul binary64 (at p k) (at q k)))

  -- so +0.0 times +0.0 changes nothing in it
  dot_zero : (k : ℕ) → at p k ≡ plus_zero → at q k ≡ plus_zero → dot (suc k) p q ≡ dot k p q
  unfolding iter
  dot_zero k e f =
      let none : T (is_zero (mul binary64 (at p k) (at q k))) = rw (e, f) (zero_times binary64 plus_zero plus_zero (unfold of_bits in tt) (unfold of_bits in tt)) in
      add-zero binary64 (dot k p q) (mul binary64 (at p k) (at q k)) (dot_plain k).1 (dot_plain k).0 none

module _ (m : ℕ) (p q x y : List Float) (gp : Gathered m p x) (gq : Gathered m q y) (zp : Zeros m p) (zq : Zeros m q) where
  dot_more : (k : ℕ) → k < m → dot k p q ≡ dot (place m k) x y → (b : Bool) → left_out m k ≡ b → dot (suc k) p q ≡ dot (place m (suc k)) x y
  unfolding iter
  dot_more k h same true e = dot_zero p q k (zp.out k h e) (zq.out k h e) ∙ same ∙ ap (λ n. dot n x y) (sym (place_out m k e))
  dot_more k h same false e =
      let next : place m (suc k) ≡ suc (place m k) = place_next m k e in
      rw (next, same, gp.own k h e, gq.own k h e)

  dot_front : (k : ℕ) → k ≤ m → dot k p q ≡ dot (place m k) x y
  unfolding iter
  dot_front zero h = ap (λ n. dot n x y) (none (eqb m 79))
    where
      none : (b : Bool) → 0 ≡ 0 - before_by b 0
      none b = omega arith
  dot_front (suc k) h = dot_more k h (dot_front k (omega arith)) (left_out m k) refl

  pub dot_kept : Laid m → dot m p q ≡ dot (kept m) x y
  dot_kept l = dot_front m (le_refl m) ∙ ap (λ n. dot n x y) (place_kept m l)

-- ---- the kept rows of all rows
module _ (m : ℕ) (x : List Float) where
  at_scatter : (i : ℕ) → i < m → at (scatter m x) i ≡ cond (left_out m i) plus_zero (at x (place m i))
  unfolding scatter
  at_scatter i h = get_d_tab m (λ k. cond (left_out m k) plus_zero (at x (place m k))) nan i h

  scatter_gathered : Gathered m (scatter m x) x
  scatter_gathered = record { own = λ i h e. sym (at_scatter i h ∙ ap (λ b. cond b plus_zero (at x (place m i))) e) }

  scatter_zeros : Zeros m (scatter m x)
  scatter_zeros = record { out = λ i h e. at_scatter i h ∙ ap (λ b. cond b plus_zero (at x (place m i))) e }

-- ---- slopes
abbrev slope : List Float → List Float → ℕ → Float
slope p q i = div binary64 (sub binary64 (at p i) (at q i)) fd_eps

zero_slope : plus_zero ≡ div binary64 (sub binary64 plus_zero plus_zero) fd_eps
unfolding of_bits sub add neg sum div round units odd size
zero_slope = refl

module _ (m : ℕ) (rp r0 x y : List Float) (l : Laid m) (gp : Gathered m rp x) (g0 : Gathered m r0 y) (zp : Zeros m rp) (z0 : Zeros m r0) where
  by_row : (i : ℕ) → i < m → (b : Bool) → left_out m i ≡ b → cond b plus_zero (at (tab (kept m) (slope x y)) (place m i)) ≡ slope rp r0 i
  by_row i h true e = rw (zp.out i h e, z0.out i h e) zero_slope
  by_row i h false e =
      let below : place m i < kept m = rw (← place_kept m l) (place_below m i m h e) in
      get_d_tab (kept m) (slope x y) nan (place m i) below ∙ rw (gp.own i h e, g0.own i h e)

  -- the slopes of the gathered residuals are the kept rows of the slopes
  pub slopes_kept : scatter m (slopes (kept m) x y) ≡ slopes m rp r0
  unfolding scatter slopes
  slopes_kept = tab_same m _ _ (λ i h. by_row i h (left_out m i) refl)

-- ---- the normal equations
module _ (n m : ℕ) (v : List Float) (l : Laid m) where
  line_columns : (c : ℕ) → c < n → line (columns n m v) c ≡ scatter m (row (kept m) v c)
  unfolding columns
  line_columns c h = get_d_tab n (λ k. scatter m (row (kept m) v k)) [] c h

  dot_columns : (c d : ℕ) → c < n → d < n → dot m (line (columns n m v) c) (line (columns n m v) d) ≡ dot (kept m) (line (rows n (kept m) v) c) (line (rows n (kept m) v) d)
  dot_columns c d hc hd =
      let a : List Float = row (kept m) v c in
      let b : List Float = row (kept m) v d in
      rw (line_columns c hc, line_columns d hd, line_rows n (kept m) v c hc, line_rows n (kept m) v d hd)
      (dot_kept m (scatter m a) (scatter m b) a b (scatter_gathered m a) (scatter_gathered m b) (scatter_zeros m a) (scatter_zeros m b) l)

  -- the Gram matrix of the kept rows is that of all rows, and so is the normal matrix
  pub gram_kept : gram n m (columns n m v) ≡ gram n (kept m) (rows n (kept m) v)
  gram_kept =
      gram_sums n m (columns n m v)
      ∙ tab_same n _ _ (λ c hc. tab_same n _ _ (λ d hd. dot_columns c d hc hd))
      ∙ sym (gram_sums n (kept m) (rows n (kept m) v))

  pub matrix_kept : (lambda : Float) → normal_matrix n m (columns n m v) lambda ≡ normal_matrix n (kept m) (rows n (kept m) v) lambda
  matrix_kept lambda =
      sym (normal_damped n m (columns n m v) lambda) ∙ ap (λ a. damped n lambda a) gram_kept ∙ normal_damped n (kept m) (rows n (kept m) v) lambda

  -- and the right side, x being the kept rows of the residuals r
  pub right_kept : (r x : List Float) → Gathered m r x → Zeros m r → right_side n m (columns n m v) r ≡ right_side n (kept m) (rows n (kept m) v) x
  right_kept r x g z =
      right_sums n m (columns n m v) r
      ∙ tab_same n _ _ (λ c hc.
      let a : List Float = row (kept m) v c in
      ap neg (rw (line_columns c hc, line_rows n (kept m) v c hc) (dot_kept m (scatter m a) r a x (scatter_gathered m a) g (scatter_zeros m a) z l)))
      ∙ sym (right_sums n (kept m) (rows n (kept m) v) x)

-- ---- columns that are put one after the other
pub columns_none : (m : ℕ) (v : List Float) → [] ≡ columns 0 m v
unfolding columns tab
columns_none m v = refl

pub columns_more : (n m : ℕ) (v : List Float) → columns (n + 1) m v ≡ columns n m v ++ (scatter m (row (kept m) v n) ∷ [])
unfolding columns tab
columns_more n m v = ap (λ k. tab k (λ c. scatter m (row (kept m) v c))) (add-one n)

pub columns_same : (n m : ℕ) (v u : List Float) → ((c : ℕ) → c < n → row (kept m) v c ≡ row (kept m) u c) → columns n m v ≡ columns n m u
unfolding columns
columns_same n m v u h = tab_same n _ _ (λ c l. ap (scatter m) (h c l))
