-- Sizes: `Within f k x` says that x is finite and at most 2 ^ k in size. Sums, differences, products and quotients of such are such, as long as no bound passes the format's top: so they
-- neither overflow nor turn into a NaN. A proof has the expression's own shape. Assumes nothing.
use Rattle.std.specs.Prelude.{◌≡◌, Bool, true, false, ◌&&◌, ℤ, pos, T, eqb, Float}
use Rattle.std.proofs.Common.{sym, ap, ◌∙◌, le_trans, le_of_eq, lt_of_lt_of_le, lt_of_le_of_lt, le_of_mul-le-mul_right, mul_comm, mul_assoc, mul_left_comm, mul_right_comm, mul-one, one-mul, mul-pos, mul-le-mul, mul-le-mul_right, zero-mul, pow-suc, zero-lt-suc, ltb→lt, lt→ltb, leb→le, le→leb, eqb→eq, lit<, pow-add, pow_pos, pow_mono}
use Prim.Native.Nat.{ℕ, zero, suc, ◌+◌, ◌*◌, ◌%◌, ◌^◌, ◌≤◌, ◌<◌, max}
use Rattle.std.proofs.Math.Nat.{mul-mul-mul_comm}
use native.Mathlib.Omega.{arith}
use Rattle.std.proofs.Math.Dec.{leb, ltb, not_T}
use Rattle.std.proofs.Math.Pow.{pow-lt}
use Rattle.std.specs.Float.{nan, inf, fin, Format, binary32, binary64}
use Rattle.std.specs.Float.Ieee.{prec, emax, low, unlike, up, down, round, add, sub, mul, div, neg, le, fits}
use Rattle.std.specs.Float.Ieee.Bits.{is_false}
use Rattle.std.specs.Float.Ieee.Fits.{up_pos, down_pos, and_i, add-fits, neg-fits, round-fits}
use Rattle.std.specs.Float.Ieee.Order.{round_mono}
use Rattle.std.specs.Float.Ieee.Scale.{round_same, finite}
use Rattle.float.specs.Ops.{abs}
use Rattle.float_laws.specs.Place.{mag, mid, place, mag_exact, mag_lt, mag_inf, mid_pos}
use Rattle.float_laws.specs.Order.{Held, held, le_up, neg_held, place_neg, abs_held, mag_neg, mag_abs}
use Rattle.float_laws.specs.Signs.{place_plus, round_plus, round_neg, round_held, abs_plus}
use Rattle.float_laws.specs.Finite.{finite_number, finite_neg, add_number, le_finite}
use Rattle.float_laws.specs.Rounding.{rnd, rnd_fix, add_above, add_below}

-- x is a value of the format, finite, and at most 2 ^ k in size
pub record Within (f : Format) (k : ℕ) (x : Float) : Type 0 where
  pub fit : T (fits f x)
  pub fine : T (finite x)
  pub small : mag f x ≤ 2 ^ (low f + k)

-- y is a value of the format, finite, and 2 ^ -k at least in size
pub record Beyond (f : Format) (k : ℕ) (y : Float) : Type 0 where
  pub fit : T (fits f y)
  pub fine : T (finite y)
  pub large : 2 ^ low f ≤ mag f y * 2 ^ k

-- it is a number of the format
pub in_held : {f : Format} {k : ℕ} {x : Float} → Within f k x → Held f x
in_held {f} {k} {x} p = held p.fit (finite_number x p.fine)

-- a wider bound
pub weaken : {f : Format} {j k : ℕ} {x : Float} → Within f j x → T (leb j k) → Within f k x
weaken {f} {j} {k} p t = record { fit = p.fit; fine = p.fine; small = le_trans p.small (pow_mono (more (leb→le j k t))) }
  where
    more : j ≤ k → low f + j ≤ low f + k
    more h = omega arith

-- ---- 2 ^ k as a value
abbrev pow2 : ℕ → Float
pow2 k = fin false 1 (pos k)

one_lt : (f : Format) → 1 < 2 ^ prec f
one_lt binary32 = lit< tt
one_lt binary64 = lit< tt

module _ (f : Format) (k : ℕ) (h : k ≤ emax f) where
  pow2_fits : T (fits f (pow2 k))
  unfolding fits
  pow2_fits =
      and_i (eqb (1 % 2) 1 && ltb 1 (2 ^ prec f) && leb 1 (2 ^ low f)) (ltb (1 * 2 ^ k) (2 ^ suc (emax f) * 1))
      (and_i (eqb (1 % 2) 1 && ltb 1 (2 ^ prec f)) (leb 1 (2 ^ low f)) (lt→ltb 1 (2 ^ prec f) (one_lt f)) (le→leb 1 (2 ^ low f) (pow_pos (low f))))
      (lt→ltb (1 * 2 ^ k) (2 ^ suc (emax f) * 1) (lt_of_le_of_lt (le_of_eq (one-mul (2 ^ k))) (lt_of_lt_of_le (pow-lt above) (le_of_eq (sym (mul-one (2 ^ suc (emax f))))))))
    where
      above : k < suc (emax f)
      above = omega arith

  pow2_mag : mag f (pow2 k) ≡ 2 ^ (low f + k)
  pow2_mag = sym (mul-one (mag f (pow2 k))) ∙ sym (mag_exact f false (pos k) 1 pow2_fits) ∙ ap (λ (z : ℕ). z * 2 ^ low f) (one-mul (2 ^ k)) ∙ mul_comm (2 ^ k) (2 ^ low f) ∙ sym (pow-add 2 (low f) k)

  pow2_held : Held f (pow2 k)
  pow2_held = held pow2_fits tt

  pow2_place : place f (pow2 k) ≡ mid f + 2 ^ (low f + k)
  pow2_place = rw (← pow2_mag) (place_plus f (pow2 k) tt)

  top_under : 2 ^ (low f + k) < mid f
  top_under = rw pow2_mag at (mag_lt f false (pos k) 1 pow2_fits)

-- ---- sizes and places
pub place_high : (f : Format) (x : Float) → T (finite x) → place f x ≤ mid f + mag f x
unfolding place
place_high f nan p = absurd p
place_high f (inf s) p = absurd p
place_high f (fin true m e) p = omega arith
place_high f (fin false m e) p = omega arith

pub place_low : (f : Format) (x : Float) → T (finite x) → mid f ≤ place f x + mag f x
unfolding place
place_low f nan p = absurd p
place_low f (inf s) p = absurd p
place_low f (fin true m e) p = omega arith
place_low f (fin false m e) p = omega arith

-- a number whose place is within M of the middle is finite, and at most M units in size
pub between : (f : Format) (x : Float) (M : ℕ) → Held f x → M < mid f → place f x ≤ mid f + M → mid f ≤ place f x + M → T (finite x) × (mag f x ≤ M)
unfolding place
between f nan M p b h k = absurd p.num
between f (inf true) M p b h k = absurd (clash (mag_inf f true))
  where
    clash : mag f (inf true) ≡ mid f → ⊥
    clash z = omega arith
between f (inf false) M p b h k = absurd (clash (mag_inf f false))
  where
    clash : mag f (inf false) ≡ mid f → ⊥
    clash z = omega arith
between f (fin true m e) M p b h k = (tt, omega (arith, mag_lt f true e m p.fit))
between f (fin false m e) M p b h k = (tt, omega (arith, mag_lt f false e m p.fit))

double : (l k : ℕ) → 2 ^ (l + suc k) ≡ 2 ^ (l + k) + 2 ^ (l + k)
double l k = let e : l + suc k ≡ suc (l + k) = omega arith in rw (e, pow-suc 2 (l + k)) (omega arith)

-- ---- the sum
pub add_in : {f : Format} {j k : ℕ} {x y : Float} → Within f j x → Within f k y → T (ltb (max j k) (emax f)) → Within f (suc (max j k)) (add f x y)
add_in {f} {j} {k} {x} {y} p q t =
    let K = max j k in
    let top : suc K ≤ emax f = ltb→lt K (emax f) t in
    let Z = pow2_held f (suc K) top in
    let d = double (low f) K in
    let a = (weaken p (le→leb j K (omega arith))).small in
    let b = (weaken q (le→leb k K (omega arith))).small in
    let pz = pow2_place f (suc K) top in
    let nz = place_neg f (pow2 (suc K)) Z in
    let m = mid_pos f in
    let xh = place_high f x p.fine in
    let xl = place_low f x p.fine in
    let yh = place_high f y q.fine in
    let yl = place_low f y q.fine in
    let hi = add_below f x y (pow2 (suc K)) p.fine q.fine p.fit q.fit Z (omega arith) (omega arith) in
    let lo = add_above f x y (neg (pow2 (suc K))) p.fine q.fine p.fit q.fit (neg_held Z) (omega arith) (omega arith) in
    let w = between f (add f x y) (2 ^ (low f + suc K)) (held (add-fits f x y) (add_number f x y p.fine (finite_number y q.fine))) (top_under f (suc K) top) (omega arith) (omega arith) in
    record { fit = add-fits f x y; fine = w.0; small = w.1 }

-- a sign changes no size
pub neg_in : {f : Format} {k : ℕ} {x : Float} → Within f k x → Within f k (neg x)
neg_in {f} {k} {x} p = record { fit = neg-fits f x p.fit; fine = finite_neg x p.fine; small = le_trans (le_of_eq (mag_neg f x)) p.small }

-- ---- the difference
pub sub_in : {f : Format} {j k : ℕ} {x y : Float} → Within f j x → Within f k y → T (ltb (max j k) (emax f)) → Within f (suc (max j k)) (sub f x y)
unfolding sub
sub_in p q t = add_in p (neg_in q) t

-- ---- a fraction of at most 2 ^ k, rounded
round_plus_in : (f : Format) (a c k : ℕ) → 0 < c → k ≤ emax f → a ≤ 2 ^ k * c → Within f k (round f false a c)
round_plus_in f a c k C t h =
    let R = round_held f false a c in
    let Q = round_held f false (2 ^ k) 1 in
    let e : round f false (2 ^ k) 1 ≡ rnd f (mag f (pow2 k)) = round_same f false (2 ^ k) 1 (mag f (pow2 k)) (2 ^ low f) (pow_pos 0) (pow_pos (low f)) (mul_comm (2 ^ k) (2 ^ low f) ∙ sym (pow-add 2 (low f) k) ∙ sym (pow2_mag f k t) ∙ sym (mul-one (mag f (pow2 k)))) in
    let o = le_up f (round f false a c) (round f false (2 ^ k) 1) R Q (round_mono f a c (2 ^ k) 1 C (pow_pos 0) (le_trans (le_of_eq (mul-one a)) h)) in
    let i : place f (round f false (2 ^ k) 1) ≡ mid f + 2 ^ (low f + k) = ap (place f) e ∙ rnd_fix f false 1 (pos k) (pow2_fits f k t) ∙ ap (λ (z : ℕ). mid f + z) (pow2_mag f k t) in
    let w = between f (round f false a c) (2 ^ (low f + k)) R (top_under f k t) (le_trans o (le_of_eq i)) (omega (arith, place_plus f (round f false a c) (round_plus f a c))) in
    record { fit = round-fits f false a c; fine = w.0; small = w.1 }

pub round_in : (f : Format) (s : Bool) (a c k : ℕ) → 0 < c → k ≤ emax f → a ≤ 2 ^ k * c → Within f k (round f s a c)
round_in f false a c k C t h = round_plus_in f a c k C t h
round_in f true a c k C t h = rw round_neg (neg_in (round_plus_in f a c k C t h))

size-le : (f : Format) (s : Bool) (m : ℕ) (e : ℤ) (k : ℕ) → Within f k (fin s m e) → m * up e ≤ 2 ^ k * down e
size-le f s m e k p =
    le_of_mul-le-mul_right {k = 2 ^ low f}
    (le_trans (le_of_eq (mag_exact f s e m p.fit))
    (le_trans (mul-le-mul_right (down e) p.small)
    (le_of_eq (ap (λ (z : ℕ). z * down e) (pow-add 2 (low f) k ∙ mul_comm (2 ^ low f) (2 ^ k)) ∙ mul_right_comm (2 ^ k) (2 ^ low f) (down e)))))
    (pow_pos (low f))

-- ---- the product
pub mul_in : {f : Format} {j k : ℕ} {x y : Float} → Within f j x → Within f k y → T (leb (j + k) (emax f)) → Within f (j + k) (mul f x y)
unfolding mul
mul_in {f} {j} {k} {x = nan} {y} p q t = absurd p.fine
mul_in {f} {j} {k} {x = inf s} {y} p q t = absurd p.fine
mul_in {f} {j} {k} {x = fin s m e} {y = nan} p q t = absurd q.fine
mul_in {f} {j} {k} {x = fin s m e} {y = inf r} p q t = absurd q.fine
mul_in {f} {j} {k} {x = fin s m e} {y = fin r n d} p q t =
    round_in f (unlike s r) (m * up e * (n * up d)) (down e * down d) (j + k) (mul-pos (down_pos e) (down_pos d)) (leb→le (j + k) (emax f) t)
    (le_trans (mul-le-mul (size-le f s m e j p) (size-le f r n d k q)) (le_of_eq (mul-mul-mul_comm (2 ^ j) (down e) (2 ^ k) (down d) ∙ ap (λ (z : ℕ). z * (down e * down d)) (sym (pow-add 2 j k)))))

-- ---- the quotient, by a divisor of 2 ^ -k at least
beyond_le : (f : Format) (r : Bool) (n : ℕ) (d : ℤ) (k : ℕ) → Beyond f k (fin r n d) → down d ≤ n * up d * 2 ^ k
beyond_le f r n d k q =
    le_of_mul-le-mul_right {k = 2 ^ low f}
    (le_trans (le_of_eq (mul_comm (down d) (2 ^ low f)))
    (le_trans (mul-le-mul_right (down d) q.large)
    (le_of_eq (mul_right_comm (mag f (fin r n d)) (2 ^ k) (down d) ∙ ap (λ (z : ℕ). z * 2 ^ k) (sym (mag_exact f r d n q.fit)) ∙ mul_right_comm (n * up d) (2 ^ low f) (2 ^ k)))))
    (pow_pos (low f))

nonzero : (n : ℕ) (d : ℤ) (k : ℕ) → down d ≤ n * up d * 2 ^ k → 0 < n
nonzero zero d k h = absurd (no (down d) (down_pos d) (le_trans h (le_of_eq (ap (λ (z : ℕ). z * 2 ^ k) (zero-mul (up d)) ∙ zero-mul (2 ^ k)))))
  where
    no : (a : ℕ) → 0 < a → a ≤ 0 → ⊥
    no a p q = omega arith
nonzero (suc n) d k h = zero-lt-suc n

not_zero : (n : ℕ) → 0 < n → eqb n 0 ≡ false
not_zero n h = is_false (eqb n 0) (not_T (eqb n 0) (λ t. let e = eqb→eq n 0 t in omega arith))

pub div_in : {f : Format} {j k : ℕ} {x y : Float} → Within f j x → Beyond f k y → T (leb (j + k) (emax f)) → Within f (j + k) (div f x y)
unfolding div
div_in {f} {j} {k} {x = nan} {y} p q t = absurd p.fine
div_in {f} {j} {k} {x = inf s} {y} p q t = absurd p.fine
div_in {f} {j} {k} {x = fin s m e} {y = nan} p q t = absurd q.fine
div_in {f} {j} {k} {x = fin s m e} {y = inf r} p q t = absurd q.fine
div_in {f} {j} {k} {x = fin s m e} {y = fin r n d} p q t =
    let b = beyond_le f r n d k q in
    let N = nonzero n d k b in
    rw (not_zero n N)
    (round_in f (unlike s r) (m * up e * down d) (n * up d * down e) (j + k) (mul-pos (mul-pos N (up_pos d)) (down_pos e)) (leb→le (j + k) (emax f) t)
    (le_trans (mul-le-mul (size-le f s m e j p) b) (le_of_eq (mix (2 ^ j) (down e) (n * up d) (2 ^ k) ∙ ap (λ (z : ℕ). z * (n * up d * down e)) (sym (pow-add 2 j k))))))
  where
    mix : (a b c d : ℕ) → a * b * (c * d) ≡ a * d * (c * b)
    mix a b c d = simp (mul_assoc, mul_comm, mul_left_comm)

-- ---- a size that a test bounds, |x| ≤ z
pub in_of_le : {f : Format} {k : ℕ} (x z : Float) → T (fits f x) → Within f k z → T (le (abs x) z) → Within f k x
in_of_le {f} {k} x z g Z h =
    let F : T (finite x) = le_finite x z Z.fine h in
    let N = finite_number x F in
    let o = le_up f (abs x) z (abs_held (held g N)) (in_held Z) h in
    let e = place_plus f (abs x) (abs_plus x N) in
    let i = mag_abs f x in
    let u = place_high f z Z.fine in
    let s = Z.small in
    record { fit = g; fine = F; small = omega arith }
