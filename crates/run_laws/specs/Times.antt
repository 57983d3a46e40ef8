-- The times of the nodes are finite: up to 16 steps, each a sixteenth of a finite duration. Assumes nothing.
use Rattle.std.specs.Prelude.{◌≡◌, refl, Bool, true, not, ◌&&◌, ℕ, zero, suc, ◌+◌, ◌-◌, ◌*◌, ◌%◌, ◌^◌, ◌≤◌, ◌<◌, ℤ, pos, negsuc, T, leb, ltb, eqb, Float}
use Rattle.std.proofs.Common.{sym, ap, subst, ◌∙◌, le_trans, le_of_eq, le_of_lt, mul-le-mul, lt_of_le_of_lt, lt_of_lt_of_le, mul_assoc, mul_comm, mul_left_comm, mul-one, one-mul, zero-mul, mul-pos, mul-le-mul_left, mul-le-mul_right, mul-lt-mul_of_pos_right, arith, ltb→lt, leb→le, lit≤, lit<, pow-add, pow_pos}
use Rattle.std.proofs.Math.Bool.{false}
use Rattle.std.proofs.Math.Dec.{nleb→lt}
use Rattle.std.proofs.Math.Pow.{pow-lt}
use Rattle.std.specs.Float.Ieee.{nan, binary64, prec, emax, low, up, down, unlike, round, mul, div, of_int, fits, of_bits}
use Rattle.std.specs.Float.{inf, fin, Format}
use Rattle.std.specs.Float.Ieee.Exact.{HasValue, round_exact}
use Rattle.std.specs.Float.Ieee.Fits.{down_pos, and_l, and_r}
use Rattle.std.specs.Float.Ieee.Order.{round_mono}
use Rattle.std.specs.Float.Ieee.Scale.{finite}
use Rattle.float_laws.specs.Finite.{finite_neg, between_finite, div_finite}
use Rattle.float_laws.specs.Signs.{round_neg}
use Rattle.float_laws.specs.Sizes.{Within, round_in, mul_in}
use Rattle.forward.specs.Decisions.{sixteen}
use Rattle.run_laws.specs.Runs.{time_of}

-- ---- what is known of a value's digits
small_digits : (f : Format) (s : Bool) (m : ℕ) (e : ℤ) → T (fits f (fin s m e)) → m < 2 ^ prec f
unfolding fits
small_digits f s zero e h = pow_pos (prec f)
small_digits f s (suc m) e h =
    let a : Bool = eqb (suc m % 2) 1 in
    let b : Bool = ltb (suc m) (2 ^ prec f) in
    let c : Bool = leb (down e) (2 ^ low f) in
    ltb→lt (suc m) (2 ^ prec f) (and_r a b (and_l (a && b) c (and_l (a && b && c) (ltb (suc m * up e) (2 ^ suc (emax f) * down e)) h)))

below_top : (f : Format) (s : Bool) (m : ℕ) (e : ℤ) → T (fits f (fin s m e)) → m * up e < 2 ^ suc (emax f) * down e
unfolding fits
below_top f s zero e h = rw (zero-mul (up e)) (mul-pos (pow_pos (suc (emax f))) (down_pos e))
below_top f s (suc m) e h =
    let a : Bool = eqb (suc m % 2) 1 in
    let b : Bool = ltb (suc m) (2 ^ prec f) in
    let c : Bool = leb (down e) (2 ^ low f) in
    ltb→lt (suc m * up e) (2 ^ suc (emax f) * down e) (and_r (a && b && c) (ltb (suc m * up e) (2 ^ suc (emax f) * down e)) h)

-- a value is finite
value_finite : (x : Float) (s : Bool) (a c : ℕ) → HasValue x s a c → T (finite x)
value_finite nan s a c h = absurd h
value_finite (inf t) s a c h = absurd h
value_finite (fin t m e) s a c h = tt

-- ---- a fraction at most another that rounds to a finite value
module _ (f : Format) (a b c d : ℕ) (B : 0 < b) (D : 0 < d) (h : a * d ≤ c * b) (g : T (finite (round f false c d))) where
  least : T (finite (round f false 0 1))
  least = value_finite (round f false 0 1) false 0 1 (round_exact f false 0 1 0 0 (pow_pos 0) (pow_pos (prec f)) (pow_pos (low f + suc (emax f))) (zero-mul (2 ^ low f)))

  under_plus : T (finite (round f false a b))
  under_plus = between_finite (round f false a b) (round f false 0 1) (round f false c d) least g (round_mono f 0 1 a b (pow_pos 0) B (le_trans (le_of_eq (zero-mul b)) (omega arith))) (round_mono f a b c d B D h)

  under : (s : Bool) → T (finite (round f s a b))
  under false = under_plus
  under true = rw round_neg (finite_neg (round f false a b) under_plus)

-- ---- k steps of the value x, which is A / 16 exactly, are at most A
module _ (f : Format) (A k : ℕ) (K : k ≤ 16) (small : k < 2 ^ prec f) (few : k * 2 ^ low f < 2 ^ (low f + suc (emax f))) (g : T (finite (round f false A 1))) where
  whole : HasValue (of_int f (pos k)) false k 1
  unfolding of_int
  whole = round_exact f false k 1 k (low f) (pow_pos 0) small few (sym (mul-one (k * 2 ^ low f)))

  cross : (p q n d : ℕ) → p * 1 ≡ k * q → n * 16 ≡ A * d → p * n * 1 ≤ A * (q * d)
  cross p q n d u v =
      let a : p * n * 1 ≡ k * (q * n) = mul-one (p * n) ∙ ap (λ (z : ℕ). z * n) (sym (mul-one p) ∙ u) ∙ mul_assoc k q n in
      let b : 16 * (q * n) ≡ A * (q * d) = mul_comm 16 (q * n) ∙ mul_assoc q n 16 ∙ ap (λ (z : ℕ). q * z) v ∙ mul_left_comm q A d in
      le_trans (le_of_eq a) (le_trans (mul-le-mul_right (q * n) K) (le_of_eq b))

  stepped : (w x : Float) (s : Bool) → HasValue w false k 1 → HasValue x s A 16 → T (finite (mul f w x))
  unfolding mul
  stepped nan x s u v = absurd u
  stepped (inf t) x s u v = absurd u
  stepped (fin t m e) nan s u v = absurd v
  stepped (fin t m e) (inf r) s u v = absurd v
  stepped (fin t m e) (fin r n d) s u v = under f (m * up e * (n * up d)) (down e * down d) A 1 (mul-pos (down_pos e) (down_pos d)) (pow_pos 0) (cross (m * up e) (down e) (n * up d) (down d) u.1 v.1) g (unlike t r)

-- ---- a duration of 16 units of its last digit or more: its sixteenth is exact
module _ (f : Format) (s r : Bool) (m j : ℕ) (F : T (fits f (fin s m (pos (j + 4))))) where
  abbrev A : ℕ
  A = m * 2 ^ (j + 4)

  top : A < 2 ^ suc (emax f)
  top = lt_of_lt_of_le (below_top f s m (pos (j + 4)) F) (le_of_eq (mul-one (2 ^ suc (emax f))))

  units : (i : ℕ) → m * 2 ^ (i + low f) ≡ m * 2 ^ i * 2 ^ low f
  units i = ap (λ (z : ℕ). m * z) (pow-add 2 i (low f)) ∙ sym (mul_assoc m (2 ^ i) (2 ^ low f))

  top_units : A * 2 ^ low f < 2 ^ (low f + suc (emax f))
  top_units = lt_of_lt_of_le (mul-lt-mul_of_pos_right top (pow_pos (low f))) (le_of_eq (mul_comm (2 ^ suc (emax f)) (2 ^ low f) ∙ sym (pow-add 2 (low f) (suc (emax f)))))

  own : HasValue (round f false A 1) false A 1
  own = round_exact f false A 1 m (j + 4 + low f) (pow_pos 0) (small_digits f s m (pos (j + 4)) F) (lt_of_le_of_lt (le_of_eq (units (j + 4))) top_units) (sym (units (j + 4)) ∙ sym (mul-one (m * 2 ^ (j + 4 + low f))))

  sixteenfold : A ≡ m * 2 ^ j * 16
  sixteenfold = ap (λ (z : ℕ). m * z) (pow-add 2 j 4) ∙ sym (mul_assoc m (2 ^ j) 16)

  part : HasValue (round f r A 16) r A 16
  part = round_exact f r A 16 m (j + low f) (omega arith) (small_digits f s m (pos (j + 4)) F)
      (lt_of_le_of_lt (le_of_eq (units j)) (lt_of_le_of_lt (mul-le-mul_right (2 ^ low f) (le_trans (le_trans (le_of_eq (sym (mul-one (m * 2 ^ j)))) (mul-le-mul_left (m * 2 ^ j) (omega arith))) (le_of_eq (sym sixteenfold)))) top_units))
      (ap (λ (z : ℕ). z * 2 ^ low f) sixteenfold ∙ mul_assoc (m * 2 ^ j) 16 (2 ^ low f) ∙ ap (λ (z : ℕ). m * 2 ^ j * z) (mul_comm 16 (2 ^ low f)) ∙ sym (mul_assoc (m * 2 ^ j) (2 ^ low f) 16) ∙ ap (λ (z : ℕ). z * 16) (sym (units j)))

  long_finite : (k : ℕ) → k ≤ 16 → k < 2 ^ prec f → k * 2 ^ low f < 2 ^ (low f + suc (emax f)) → T (finite (mul f (of_int f (pos k)) (round f r A 16)))
  long_finite k K small few = stepped f A k K small few (value_finite (round f false A 1) false A 1 own) (of_int f (pos k)) (round f r A 16) r (whole f A k K small few (value_finite (round f false A 1) false A 1 own)) part

-- ---- a shorter one: all stays far below the largest value
module _ (k : ℕ) (K : k ≤ 16) where
  count_in : Within binary64 4 (of_int binary64 (pos k))
  unfolding of_int
  count_in = round_in binary64 false k 1 4 (pow_pos 0) (lit≤ tt) (omega arith)

  short_finite : (s : Bool) (a c : ℕ) → 0 < c → a ≤ 2 ^ 57 * c → T (finite (mul binary64 (of_int binary64 (pos k)) (round binary64 s a c)))
  short_finite s a c C h = (mul_in count_in (round_in binary64 s a c 57 C (lit≤ tt) h) tt).fine

  few : k * 2 ^ low binary64 < 2 ^ (low binary64 + suc (emax binary64))
  few = over (low binary64) (emax binary64) tt
    where
      over : (l e : ℕ) → T (leb 5 e) → k * 2 ^ l < 2 ^ (l + suc e)
      over l e h = lt_of_lt_of_le (mul-lt-mul_of_pos_right room (pow_pos l)) (le_of_eq (mul_comm (2 ^ suc e) (2 ^ l) ∙ sym (pow-add 2 l (suc e))))
        where
          room : k < 2 ^ suc e
          room = lt_of_le_of_lt K (pow-lt {i = 4} {j = suc e} (omega (arith, leb→le 5 e h)))

-- a duration of whole units, by its exponent
whole_finite : (s r : Bool) (m j k : ℕ) → k ≤ 16 → T (fits binary64 (fin s m (pos j))) → T (finite (mul binary64 (of_int binary64 (pos k)) (round binary64 r (m * 2 ^ j) 16)))
whole_finite s r m j k K F = go (leb 4 j) (leb→le 4 j) (nleb→lt 4 j)
  where
    long : (i : ℕ) → i + 4 ≡ j → T (finite (mul binary64 (of_int binary64 (pos k)) (round binary64 r (m * 2 ^ j) 16)))
    long i e = subst (λ (n : ℕ). T (fits binary64 (fin s m (pos n))) → T (finite (mul binary64 (of_int binary64 (pos k)) (round binary64 r (m * 2 ^ n) 16)))) e (λ (G : T (fits binary64 (fin s m (pos (i + 4))))). long_finite binary64 s r m i G k K (lt_of_le_of_lt K (lit< tt)) (few k K)) F

    go : (b : Bool) → (T b → 4 ≤ j) → (T (not b) → j < 4) → T (finite (mul binary64 (of_int binary64 (pos k)) (round binary64 r (m * 2 ^ j) 16)))
    go true h g = let l : 4 ≤ j = h tt in long (j - 4) (omega arith)
    go false h g = short_finite k K r (m * 2 ^ j) 16 (lit< tt) (le_trans (mul-le-mul (le_of_lt (small_digits binary64 s m (pos j) F)) (le_of_lt (pow-lt {i = j} {j = 4} (g tt)))) (lit≤ tt))

within : (m c : ℕ) → m < 2 ^ 53 → 0 < c → m ≤ 2 ^ 57 * c
within m c h C = le_trans (le_of_lt h) (le_trans (lit≤ tt) (mul-le-mul_left (2 ^ 57) C))

-- TIMES: node k of a run stands at a finite time, where the time of a step is finite
pub time_finite : (d : Float) → T (fits binary64 d) → T (finite (div binary64 d sixteen)) → (k : ℕ) → k ≤ 16 → T (finite (time_of (div binary64 d sixteen) k))
unfolding div of_bits
time_finite nan F t k K = absurd t
time_finite (inf s) F t k K = absurd t
time_finite (fin s m (negsuc e)) F t k K = short_finite k K (unlike s false) (m * 1 * 1) (16 * 2 ^ suc e) (mul-pos (lit< tt) (pow_pos (suc e))) (le_trans (le_of_eq (mul-one (m * 1) ∙ mul-one m)) (within m (16 * 2 ^ suc e) (small_digits binary64 s m (negsuc e) F) (mul-pos (lit< tt) (pow_pos (suc e)))))
time_finite (fin s m (pos j)) F t k K = rw (mul-one (m * 2 ^ j)) (whole_finite s (unlike s false) m j k K F)
