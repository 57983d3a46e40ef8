-- `hold l x`, the control x held between -l and l: done twice, to two limits, of -x, in order, and where it changes x. Assumes nothing.
-- A limit is any f64 above 0, infinity too. A control is any f64 but a NaN, so each finite one.
use Rattle.std.specs.Prelude.{◌≡◌, refl, ◌≤◌, true, false, not, Float}
use Rattle.std.proofs.Math.Path.{sym, ap}
use Rattle.std.proofs.Common.{◌∙◌, arith}
use Rattle.std.proofs.Math.Dec.{T}
use Rattle.std.specs.Float.Ieee.{nan, binary64, neg, lt, le, fits, of_bits, is_nan}
use Rattle.std.specs.Float.{inf, fin}
use Rattle.std.specs.Float.Ieee.Scale.{finite}
use Rattle.std.specs.Float.Ieee.Bits.{is_true, is_false}
use Rattle.float.specs.Ops as Ops
use Rattle.float.specs.Ops.{number, abs}
use Rattle.float_laws.specs.Numbers.{lt_r, clamp_n}
use Rattle.float_laws.specs.Finite.{finite_number}
use Rattle.float_laws.specs.Limits as Limits
use Rattle.float_laws.specs.Place.{mid, place}
use Rattle.float_laws.specs.Order.{Held, held, lt_up, nlt_up, le_up, neg_held, abs_held, place_neg, place_abs, le_trans, lt_le, not_above}
use Rattle.float_laws.specs.Signs.{place_plus, above_zero_plus}
use Rattle.float_laws.specs.Clamp.{test, clamp_same, sym_abs, sym_idem, sym_neg, clamp_mono, clamp_wider, clamp_narrower}
use Rattle.control_limits.specs.Limits.{hold, changed}

-- a limit: an f64 above 0
pub record Limit (l : Float) : Type 0 where
  pub fit : T (fits binary64 l)
  pub over : T (lt (of_bits binary64 0) l)

-- infinity is one, and so is each limit that passes the problem's checks
pub endless : Limit (inf false)
endless = record { fit = unfold fits in tt; over = unfold lt of_bits in tt }

pub checked : {l : Float} → Limits.Limit l → Limit l
checked L = record { fit = L.fit; over = L.over }

-- a control: an f64 that is no NaN
pub record Number (x : Float) : Type 0 where
  pub fit : T (fits binary64 x)
  pub real : T (number x)

-- each finite one is
pub finite_is : {x : Float} → T (fits binary64 x) → T (finite x) → Number x
finite_is {x} p q = record { fit = p; real = finite_number x q }

at : {x : Float} → Number x → Held binary64 x
at p = held p.fit p.real

module _ {l : Float} (L : Limit l) where
  top : Held binary64 l
  top = held L.fit (lt_r (of_bits binary64 0) l L.over)

  up : mid binary64 ≤ place binary64 l
  up = omega (arith, place_plus binary64 l (above_zero_plus l L.over))

  -- A SECOND HOLD CHANGES NOTHING
  pub hold_twice : {x : Float} → Number x → hold l (hold l x) ≡ hold l x
  unfolding hold
  hold_twice {x} p = sym_idem binary64 l top up x (at p)

  -- A NEGATED CONTROL IS HELD TO THE NEGATED ONE
  pub hold_neg : {x : Float} → Number x → hold l (neg x) ≡ neg (hold l x)
  unfolding hold
  hold_neg {x} p = sym_neg binary64 l top up x (at p)

  -- A LARGER CONTROL IS NEVER HELD TO A SMALLER ONE
  pub hold_mono : {x y : Float} → Number x → Number y → T (le x y) → T (le (hold l x) (hold l y))
  unfolding hold
  hold_mono {x} {y} p q h =
      let o = up in
      let n = place_neg binary64 l top in
      clamp_mono binary64 (neg l) l (neg_held top) top x y (at p) (at q) (omega arith) h

  -- what is within its limit stays as it is
  pub hold_within : {x : Float} → Number x → T (le (abs x) l) → hold l x ≡ x
  unfolding hold
  hold_within {x} p h =
      let a = place_abs binary64 x (at p) in
      let b = le_up binary64 (abs x) l (abs_held (at p)) top h in
      let n = place_neg binary64 l top in
      clamp_same binary64 (neg l) l (neg_held top) top x (at p) (omega arith) (omega arith)

-- ---- where a control is changed: exactly where the number differs
not_number : (y : Float) → (T (number y) → ⊥) → y ≡ nan
not_number nan h = refl
not_number (inf s) h = absurd (h tt)
not_number (fin s m e) h = absurd (h tt)

module _ {l : Float} (L : Limit l) where
  nan_same : hold l nan ≡ nan
  unfolding hold
  nan_same = not_number _ (clamp_n (neg l) l nan)

  within_same : {x : Float} → Number x → T (not (changed l x)) → hold l x ≡ x
  within_same {x} p h = hold_within L p (not_above binary64 (abs x) l (abs_held (at p)) (top L) h)

  beyond_differs : {x : Float} → Number x → T (changed l x) → hold l x ≡ x → ⊥
  unfolding hold
  beyond_differs {x} p t e =
      let s : T (le (abs x) l) = rw e at (sym_abs binary64 l (top L) (up L) x (at p)) in
      omega (arith, le_up binary64 (abs x) l (abs_held (at p)) (top L) s, lt_up binary64 l (abs x) (top L) (abs_held (at p)) t)

  -- A CONTROL THAT IS NOT CHANGED is the number that it was, a NaN too
  pub unchanged_same : (x : Float) → T (fits binary64 x) → T (not (changed l x)) → hold l x ≡ x
  unchanged_same nan f h = nan_same
  unchanged_same (inf s) f h = within_same (record { fit = f; real = tt }) h
  unchanged_same (fin s m e) f h = within_same (record { fit = f; real = tt }) h

  -- ONE THAT IS CHANGED is another number
  pub changed_differs : (x : Float) → T (fits binary64 x) → T (changed l x) → hold l x ≡ x → ⊥
  unfolding abs
  changed_differs nan f t e = absurd (lt_r l nan t)
  changed_differs (inf s) f t e = beyond_differs (record { fit = f; real = tt }) t e
  changed_differs (fin s m x) f t e = beyond_differs (record { fit = f; real = tt }) t e

-- an infinite limit changes nothing
endless_same : (x : Float) → T (number x) → hold (inf false) x ≡ x
unfolding hold Ops.clamp neg lt
endless_same nan p = absurd p
endless_same (inf true) p = refl
endless_same (inf false) p = refl
endless_same (fin s m e) p = refl

pub hold_endless : {x : Float} → Number x → hold (inf false) x ≡ x
hold_endless {x} p = endless_same x p.real

-- ---- the smaller of two limits
min_first : (a b : Float) → T (number a) → T (not (lt b a)) → Ops.min a b ≡ a
unfolding Ops.min is_nan
min_first nan b p h = absurd p
min_first (inf s) b p h = rw (is_false (lt b (inf s)) h)
min_first (fin s m e) b p h = rw (is_false (lt b (fin s m e)) h)

min_second : (a b : Float) → T (lt b a) → Ops.min a b ≡ b
unfolding Ops.min
min_second a b h = rw (is_true (lt b a) h)

module _ {l k : Float} (L : Limit l) (K : Limit k) where
  -- TO ONE LIMIT AND THEN TO ANOTHER IS TO THE SMALLER
  pub hold_nested : {x : Float} → Number x → hold k (hold l x) ≡ hold (Ops.min l k) x
  unfolding hold
  hold_nested {x} p =
      test (lt k l)
      (λ h. clamp_narrower binary64 l k x (top L) (top K) (at p) (up K) (lt_up binary64 k l (top K) (top L) h) ∙ ap (λ m. hold m x) (sym (min_second l k h)))
      (λ h. clamp_wider binary64 l k x (top L) (top K) (at p) (up L) (nlt_up binary64 k l (top K) (top L) h) ∙ ap (λ m. hold m x) (sym (min_first l k (top L).num h)))

  -- the smaller of two limits is one, so that a third can be nested
  pub min_limit : Limit (Ops.min l k)
  min_limit = test (lt k l) (λ h. rw (min_second l k h) K) (λ h. rw (min_first l k (top L).num h) L)

  -- what is at most the smaller limit is at most each of the two
  pub min_both : (x : Float) → T (fits binary64 x) → T (le x (Ops.min l k)) → T (le x l) × T (le x k)
  min_both x f h =
      test (lt k l)
      (λ t. let a : T (le x k) = rw (min_second l k t) at h in (le_trans binary64 x k l f K.fit L.fit a (lt_le binary64 k l K.fit L.fit t), a))
      (λ t. let a : T (le x l) = rw (min_first l k (top L).num t) at h in (a, le_trans binary64 x l k f L.fit K.fit a (not_above binary64 l k (top L) (top K) t)))

  -- of two limits that differ, which of them comes first does not matter
  pub hold_either : {x : Float} → Number x → T (lt k l) → hold k (hold l x) ≡ hold l (hold k x)
  unfolding hold
  hold_either {x} p h =
      let o = lt_up binary64 k l (top K) (top L) h in
      clamp_narrower binary64 l k x (top L) (top K) (at p) (up K) o ∙ sym (clamp_wider binary64 k l x (top K) (top L) (at p) (up K) (omega arith))
