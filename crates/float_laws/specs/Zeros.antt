-- Zeros of either sign. A finite number times a zero is a zero; a zero added to anything but -0 changes nothing, bit for bit; and a sum whose first
-- part is not -0 is not -0. Assumes nothing.
use Rattle.std.specs.Prelude.{◌≡◌, refl, ℕ, zero, suc, ◌+◌, ◌-◌, ◌*◌, ◌/◌, ◌^◌, ◌<◌, Bool, not, ◌&&◌, cond, ℤ, pos, negsuc, ltb, eqb, Float}
use Rattle.std.proofs.Common.{sym, ap, ◌∙◌, mul_assoc, zero-mul, mul-zero, one-mul, mul-pos, mul_right_comm, eqb→eq, lt→ltb, ltb→lt, pow_pos}
use Rattle.std.proofs.Math.Nat.{zero-div}
use native.Mathlib.Omega.{arith}
use Rattle.std.proofs.Math.Bool.{true, false}
use Rattle.std.specs.Bool.{beq}
use Rattle.std.proofs.Math.Dec.{T}
use Rattle.std.proofs.Math.Arith.{le→nltb}
use Rattle.std.specs.Float.Ieee.{nan, prec, low, up, down, hid, size, round, sum, add, sub, mul, neg, fits, to_bits, of_bits}
use Rattle.std.specs.Float.{inf, fin, Format, binary64}
use Rattle.std.specs.Float.Ieee.Bits.{is_true, is_false, of_bits-to_bits}
use Rattle.std.specs.Float.Ieee.Fits.{up_pos, down_pos, round-fits, neg-fits, add-fits}
use Rattle.std.specs.Float.Ieee.Scale.{round_same, finite}
use Rattle.float_laws.specs.Place.{mag, mid, place, mag_exact, mag_lt, mag_inf}
use Rattle.float_laws.specs.Signs.{plus, place_plus, round_plus, round_neg}
use Rattle.float_laws.specs.Rounding.{rnd, rnd_fix, rnd_mono, add_units}
use Rattle.float_laws.specs.Commute.{mul_swap}

-- a zero, of either sign
abbrev pub is_zero : Float → Bool
is_zero nan = false
is_zero (inf s) = false
is_zero (fin s m e) = eqb m 0

-- -0
abbrev pub is_minus_zero : Float → Bool
is_minus_zero nan = false
is_minus_zero (inf s) = false
is_minus_zero (fin s m e) = s && eqb m 0

-- ---- a value of the format is known by its sign and its size
bits_by_size : (f : Format) (m : ℕ) (e : ℤ) (n : ℕ) (d : ℤ) → mag f (fin false m e) ≡ mag f (fin false n d) → to_bits f (fin false m e) ≡ to_bits f (fin false n d)
unfolding mag to_bits
bits_by_size f m e n d h = ap (λ (z : ℕ). 0 + (size z - prec f) * hid f + z / 2 ^ (size z - prec f)) h

-- two values of the format with the sign + and of one size are one
plus_same : (f : Format) (x y : Float) → T (fits f x) → T (fits f y) → T (plus x) → T (plus y) → mag f x ≡ mag f y → x ≡ y
plus_same f nan y X Y p q h = absurd p
plus_same f (inf true) y X Y p q h = absurd p
plus_same f (inf false) nan X Y p q h = absurd q
plus_same f (inf false) (inf true) X Y p q h = absurd q
plus_same f (inf false) (inf false) X Y p q h = refl
plus_same f (inf false) (fin t n d) X Y p q h = absurd (no (mag_lt f t d n Y) (mag_inf f false))
  where
    no : mag f (fin t n d) < mid f → mag f (inf false) ≡ mid f → ⊥
    no a b = omega arith
plus_same f (fin true m e) y X Y p q h = absurd p
plus_same f (fin false m e) nan X Y p q h = absurd q
plus_same f (fin false m e) (inf t) X Y p q h = absurd (no (mag_lt f false e m X) (mag_inf f t))
  where
    no : mag f (fin false m e) < mid f → mag f (inf t) ≡ mid f → ⊥
    no a b = omega arith
plus_same f (fin false m e) (fin true n d) X Y p q h = absurd q
plus_same f (fin false m e) (fin false n d) X Y p q h = sym (of_bits-to_bits f _ X) ∙ (ap (of_bits f) (bits_by_size f m e n d h) ∙ of_bits-to_bits f _ Y)

-- a value of the format, rounded, is itself
round_plus_self : (f : Format) (m : ℕ) (e : ℤ) (k : ℕ) → 0 < k → T (fits f (fin false m e)) → round f false (m * up e * k) (down e * k) ≡ fin false m e
round_plus_self f m e k K F =
    let x = fin false m e in
    let same : m * up e * k * 2 ^ low f ≡ mag f x * (down e * k) = mul_right_comm (m * up e) k (2 ^ low f) ∙ (ap (λ (z : ℕ). z * k) (mag_exact f false e m F) ∙ mul_assoc (mag f x) (down e) k) in
    let sized : mag f (rnd f (mag f x)) ≡ mag f x = omega (arith, rnd_fix f false m e F, place_plus f (rnd f (mag f x)) (round_plus f (mag f x) (2 ^ low f))) in
    round_same f false (m * up e * k) (down e * k) (mag f x) (2 ^ low f) (mul-pos (down_pos e) K) (pow_pos (low f)) same
    ∙ plus_same f (rnd f (mag f x)) x (round-fits f false (mag f x) (2 ^ low f)) F (round_plus f (mag f x) (2 ^ low f)) tt sized

round_self : (f : Format) (s : Bool) (m : ℕ) (e : ℤ) (k : ℕ) → 0 < k → T (fits f (fin s m e)) → round f s (m * up e * k) (down e * k) ≡ fin s m e
unfolding neg
round_self f false m e k K F = round_plus_self f m e k K F
round_self f true m e k K F = round_neg f (m * up e * k) (down e * k) ∙ ap neg (round_plus_self f m e k K (neg-fits f (fin true m e) F))

-- nothing, rounded, is a zero
round_zero : (f : Format) (s : Bool) (c : ℕ) → 0 < c → round f s 0 c ≡ fin s 0 (pos 0)
unfolding fits
round_zero f s c C = round_same f s 0 c (0 * up (pos 0) * c) (down (pos 0) * c) C (rw one-mul C) (omega arith) ∙ round_self f s 0 (pos 0) c C tt

-- ---- a zero is added
nothing_more : (f : Format) (s : Bool) (a : ℕ) (t : Bool) (c : ℕ) → (T s → 0 < a) → sum f s a t 0 c ≡ round f s a c
unfolding sum
nothing_more f s a t c h = go s t h
  where
    plain : (s : Bool) → round f s (a + 0) c ≡ round f s a c
    plain s = ap (λ (z : ℕ). round f s z c) (omega arith)

    other : (s : Bool) → round f s (a - 0) c ≡ round f s a c
    other s = ap (λ (z : ℕ). round f s z c) (omega arith)

    never : ltb a 0 ≡ false
    never = is_false (ltb a 0) (le→nltb a 0 (omega arith))

    go : (s t : Bool) → (T s → 0 < a) → sum f s a t 0 c ≡ round f s a c
    go false false h = plain false
    go true true h = plain true
    go false true h = rw never (other false)
    go true false h = rw (never, is_true (ltb 0 a) (lt→ltb 0 a (h tt))) (other true)

-- a negative number that is not -0
nonzero : (s : Bool) (m : ℕ) → T s → T (not (s && eqb m 0)) → 0 < m
nonzero true zero p n = absurd n
nonzero true (suc m) p n = omega arith
nonzero false m p n = absurd p

sum_zero : (f : Format) (s : Bool) (m : ℕ) (e : ℤ) (t : Bool) (k : ℕ) → 0 < k → T (fits f (fin s m e)) → T (not (s && eqb m 0)) → sum f s (m * up e * k) t 0 (down e * k) ≡ fin s m e
sum_zero f s m e t k K F n = nothing_more f s (m * up e * k) t (down e * k) (λ p. mul-pos (mul-pos (nonzero s m p n) (up_pos e)) K) ∙ round_self f s m e k K F

no_size : (n : ℕ) (d : ℤ) (k : ℕ) → T (eqb n 0) → n * up d * k ≡ 0
no_size n d k Z = rw (eqb→eq n 0 Z) (simp zero-mul)

-- a zero added to anything but -0 changes nothing, bit for bit
pub add-zero : (f : Format) (x y : Float) → T (fits f x) → T (not (is_minus_zero x)) → T (is_zero y) → add f x y ≡ x
unfolding add
add-zero f x nan F n Z = absurd Z
add-zero f x (inf t) F n Z = absurd Z
add-zero f nan (fin t k d) F n Z = refl
add-zero f (inf s) (fin t k d) F n Z = refl
add-zero f (fin s m e) (fin t k d) F n Z = ap (λ (z : ℕ). sum f s (m * up e * down d) t z (down e * down d)) (no_size k d (down e) Z) ∙ sum_zero f s m e t (down d) (down_pos d) F n

-- +0
abbrev plus_zero : Float
plus_zero = fin false 0 (pos 0)

plus_not : (x : Float) → T (plus x) → T (not (is_minus_zero x))
plus_not nan p = tt
plus_not (inf s) p = tt
plus_not (fin true m e) p = absurd p
plus_not (fin false m e) p = tt

zero_size : (f : Format) (s : Bool) (e : ℤ) → mag f (fin s 0 e) ≡ 0
unfolding mag
zero_size f s e = simp (zero-mul, zero-div)

-- ---- a sum is -0 only where both parts are: one is the format's smallest value, a single unit
module _ (f : Format) (one : place f (rnd f 1) ≡ mid f + 1) where
  neg_not : (z : Float) → T (plus z) → mid f < place f z → T (not (is_minus_zero (neg z)))
  unfolding neg place
  neg_not nan p h = absurd p
  neg_not (inf s) p h = tt
  neg_not (fin true m e) p h = absurd p
  neg_not (fin false m e) p h = go (eqb m 0) (eqb→eq m 0)
    where
      go : (b : Bool) → (T b → m ≡ 0) → T (not b)
      go true k = let none : mag f (fin false m e) ≡ 0 = rw (k tt) (zero_size f false e) in omega arith
      go false k = tt

  -- some units with the sign -, rounded
  less_not : (u : ℕ) → 0 < u → T (not (is_minus_zero (round f true u (2 ^ low f))))
  less_not u h = rw round_neg (neg_not (rnd f u) (round_plus f u (2 ^ low f)) (omega (arith, one, rnd_mono f 1 u h)))

  more_not : (a : ℕ) → T (not (is_minus_zero (round f false a (2 ^ low f))))
  more_not a = plus_not (rnd f a) (round_plus f a (2 ^ low f))

  sum_not : (s : Bool) (p : ℕ) (t : Bool) (q : ℕ) → (T s → 0 < p) → T (not (is_minus_zero (sum f s p t q (2 ^ low f))))
  unfolding sum
  sum_not false p false q h = more_not (p + q)
  sum_not true p true q h = less_not (p + q) (omega (arith, h tt))
  sum_not false p true q h = go (ltb p q) (ltb→lt p q)
    where
      go : (b : Bool) → (T b → p < q) → T (not (is_minus_zero (cond b (round f true (q - p) (2 ^ low f)) (round f false (p - q) (2 ^ low f)))))
      go true k = less_not (q - p) (omega (arith, k tt))
      go false k = more_not (p - q)
  sum_not true p false q h = go (ltb p q) (ltb q p) (ltb→lt q p)
    where
      go : (b c : Bool) → (T c → q < p) → T (not (is_minus_zero (cond b (round f false (q - p) (2 ^ low f)) (round f c (p - q) (2 ^ low f)))))
      go true c k = more_not (q - p)
      go false true k = less_not (p - q) (omega (arith, k tt))
      go false false k = more_not (p - q)

  some_size : (s : Bool) (m : ℕ) (e : ℤ) → T (fits f (fin s m e)) → 0 < m → 0 < mag f (fin s m e)
  some_size s m e g h = go (mag f (fin s m e)) (mag_exact f s e m g) (mul-pos (mul-pos h (up_pos e)) (pow_pos (low f)))
    where
      go : (k : ℕ) → m * up e * 2 ^ low f ≡ k * down e → 0 < m * up e * 2 ^ low f → 0 < k
      go zero q l = omega (arith, zero-mul (down e))
      go (suc k) q l = omega arith

  sum_not_minus : (x y : Float) → T (fits f x) → T (fits f y) → T (not (is_minus_zero x)) → T (not (is_minus_zero (add f x y)))
  unfolding add
  sum_not_minus nan y g h n = tt
  sum_not_minus (inf s) nan g h n = tt
  sum_not_minus (inf s) (inf t) g h n = go (beq s t)
    where
      go : (b : Bool) → T (not (is_minus_zero (cond b (inf s) nan)))
      go true = tt
      go false = tt
  sum_not_minus (inf s) (fin t k d) g h n = tt
  sum_not_minus (fin s m e) nan g h n = tt
  sum_not_minus (fin s m e) (inf t) g h n = tt
  sum_not_minus (fin s m e) (fin t k d) g h n = rw (add_units f s m e t k d g h) (sum_not s (mag f (fin s m e)) t (mag f (fin t k d)) (λ p. some_size s m e g (nonzero s m p n)))

-- the smallest value is one unit
one_unit : place binary64 (rnd binary64 1) ≡ mid binary64 + 1
unfolding fits mag
one_unit = rnd_fix binary64 false 1 (negsuc 1073) tt

-- a sum whose first part is not -0 is not -0
pub add_not_minus : (x y : Float) → T (fits binary64 x) → T (fits binary64 y) → T (not (is_minus_zero x)) → T (not (is_minus_zero (add binary64 x y)))
add_not_minus = sum_not_minus binary64 one_unit

-- y added to +0, and then a zero: the zero changes nothing
pub zero_absorbed : (y z : Float) → T (fits binary64 y) → T (is_zero z) → add binary64 (add binary64 (of_bits binary64 0) y) z ≡ add binary64 (of_bits binary64 0) y
unfolding of_bits fits
zero_absorbed y z F Z = add-zero binary64 (add binary64 plus_zero y) z (add-fits binary64 plus_zero y) (add_not_minus plus_zero y tt F tt) Z

-- ---- products and differences that are zeros
zero_rounded : (f : Format) (s : Bool) (a c : ℕ) → a ≡ 0 → 0 < c → T (is_zero (round f s a c))
zero_rounded f s a c e C = rw (e, round_zero f s c C) tt

-- a finite number times a zero
pub times_zero : (f : Format) (x y : Float) → T (finite x) → T (is_zero y) → T (is_zero (mul f x y))
unfolding mul
times_zero f nan y F Z = absurd F
times_zero f (inf s) y F Z = absurd F
times_zero f (fin s m e) nan F Z = absurd Z
times_zero f (fin s m e) (inf t) F Z = absurd Z
times_zero f (fin s m e) (fin t n d) F Z = zero_rounded f _ _ _ (rw (eqb→eq n 0 Z) (simp (zero-mul, mul-zero))) (mul-pos (down_pos e) (down_pos d))

pub zero_times : (f : Format) (x y : Float) → T (is_zero x) → T (finite y) → T (is_zero (mul f x y))
zero_times f x y Z F = rw (mul_swap f x y) (times_zero f y x F Z)

zeros_sum : (f : Format) (s t : Bool) (c : ℕ) → 0 < c → T (is_zero (sum f s 0 t 0 c))
unfolding sum
zeros_sum f true true c C = zero_rounded f true 0 c refl C
zeros_sum f true false c C = zero_rounded f false 0 c refl C
zeros_sum f false true c C = zero_rounded f false 0 c refl C
zeros_sum f false false c C = zero_rounded f false 0 c refl C

-- a zero less a zero
pub zero_less : (f : Format) (x y : Float) → T (is_zero x) → T (is_zero y) → T (is_zero (sub f x y))
unfolding sub add neg
zero_less f nan y X Y = absurd X
zero_less f (inf s) y X Y = absurd X
zero_less f (fin s m e) nan X Y = absurd Y
zero_less f (fin s m e) (inf t) X Y = absurd Y
zero_less f (fin s m e) (fin t n d) X Y = rw (no_size m e (down d) X, no_size n d (down e) Y) (zeros_sum f s (not t) _ (mul-pos (down_pos e) (down_pos d)))
