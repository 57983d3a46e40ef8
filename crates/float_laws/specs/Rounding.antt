-- Monotone rounding of a signed sum: where the exact sum of two finite values is at least a value z of the format, so is the rounded one, and where it is at most z, so is the rounded one.
-- In places, whose middle is zero, the exact sum lies at place x + place y - mid. Assumes nothing.
use Rattle.std.specs.Prelude.{◌≡◌, refl, ℕ, zero, suc, ◌+◌, ◌-◌, ◌*◌, ◌%◌, ◌^◌, ◌≤◌, ◌<◌, Bool, true, false, not, ◌&&◌, ℤ, pos, negsuc, T, leb, ltb, eqb, Float}
use Rattle.std.proofs.Common.{sym, ap, ◌∙◌, le_of_eq, lt_of_lt_of_le, mul_comm, mul_assoc, mul-one, zero-mul, mul-pos, add-mul, mul-le-mul_right, arith, true≢false, ltb→lt, nltb→le, pow-add}
use Rattle.std.proofs.Math.Nat.{mul-sub, eq_of_mul-eq-mul_right}
use Rattle.std.proofs.Math.Bool.{cond}
use Rattle.std.specs.Bool.{beq}
use Rattle.std.proofs.Math.Pow.{pow_pos}
use Rattle.std.specs.Float.{nan, inf, fin, Format}
use Rattle.std.specs.Float.Ieee.{prec, emax, low, up, down, round, sum, add, neg, le, fits}
use Rattle.std.specs.Float.Ieee.Digits.{back}
use Rattle.std.specs.Float.Ieee.Fits.{down_pos, and_l, and_r, round-fits, add-fits}
use Rattle.std.specs.Float.Ieee.Exact.{HasValue, round_exact}
use Rattle.std.specs.Float.Ieee.Order.{round_mono}
use Rattle.std.specs.Float.Ieee.Scale.{round_same, finite}
use Rattle.float_laws.specs.Place.{mag, mid, side, place, mag_exact, mag_lt, mid_pos, place_inf, pow_back, down_le, same_lt, cross_l, cross_r, fin_under}
use Rattle.float_laws.specs.Order.{Held, held, le_up, up_le, neg_held, place_neg}
use Rattle.float_laws.specs.Signs.{place_plus, round_plus, round_neg, round_held}
use Rattle.float_laws.specs.Finite.{finite_number, add_number}

-- ---- a number of units, rounded
abbrev pub rnd : Format → ℕ → Float
rnd f u = round f false u (2 ^ low f)

-- it is not below zero
pub rnd_ge_mid : (f : Format) (u : ℕ) → mid f ≤ place f (rnd f u)
rnd_ge_mid f u = omega (arith, place_plus f (rnd f u) (round_plus f u (2 ^ low f)))

-- it grows with the number
pub rnd_mono : (f : Format) (u v : ℕ) → u ≤ v → place f (rnd f u) ≤ place f (rnd f v)
rnd_mono f u v h =
    le_up f (rnd f u) (rnd f v) (round_held f false u (2 ^ low f)) (round_held f false v (2 ^ low f))
    (round_mono f u (2 ^ low f) v (2 ^ low f) (pow_pos (low f)) (pow_pos (low f)) (mul-le-mul_right (2 ^ low f) h))

mag_pow : (f : Format) (s : Bool) (m : ℕ) (e : ℤ) → T (fits f (fin s m e)) → (j : ℕ) × (mag f (fin s m e) ≡ m * 2 ^ j)
mag_pow f s m (pos k) h = (k + low f, sym (mul-one _) ∙ sym (mag_exact f s (pos k) m h) ∙ mul_assoc m (2 ^ k) (2 ^ low f) ∙ ap (λ (z : ℕ). m * z) (sym (pow-add 2 k (low f))))
mag_pow f s m (negsuc k) h =
    let j = low f - suc k in (
      j,
      eq_of_mul-eq-mul_right (2 ^ suc k) (pow_pos (suc k)) (mag f (fin s m (negsuc k))) (m * 2 ^ j)
          (sym (mag_exact f s (negsuc k) m h) ∙ ap (λ (z : ℕ). z * 2 ^ low f) (mul-one m) ∙ ap (λ (z : ℕ). m * z) (ap (λ (z : ℕ). 2 ^ z) (sym (back (low f) (suc k) (pow_back (suc k) (low f) (down_le f s (negsuc k) m h)))) ∙ pow-add 2 j (suc k)) ∙ sym (mul_assoc m (2 ^ j) (2 ^ suc k))),
    )

digits : (f : Format) (s : Bool) (m : ℕ) (e : ℤ) → T (fits f (fin s m e)) → m < 2 ^ prec f
unfolding fits
digits f s zero e h = pow_pos (prec f)
digits f s (suc m) e h =
    let a : Bool = eqb (suc m % 2) 1 in
    let b : Bool = ltb (suc m) (2 ^ prec f) in
    let c : Bool = leb (down e) (2 ^ low f) in
    ltb→lt (suc m) (2 ^ prec f) (and_r a b (and_l (a && b) c (and_l (a && b && c) (ltb (suc m * up e) (2 ^ suc (emax f) * down e)) h)))

place_of_value : (f : Format) (w : Float) (a : ℕ) → T (fits f w) → HasValue w false a (2 ^ low f) → place f w ≡ mid f + a
unfolding place
place_of_value f nan a g h = absurd h
place_of_value f (inf s) a g h = absurd h
place_of_value f (fin true m e) a g h = absurd (true≢false h.0)
place_of_value f (fin false m e) a g h = ap (λ (z : ℕ). mid f + z) (eq_of_mul-eq-mul_right (down e) (down_pos e) (mag f (fin false m e)) a (sym (mag_exact f false e m g) ∙ h.1))

mid_is : (f : Format) → mid f ≡ 2 ^ (low f + suc (emax f))
unfolding mid
mid_is f = refl

-- a value's own number of units is rounded to the value's size
pub rnd_fix : (f : Format) (s : Bool) (m : ℕ) (e : ℤ) → T (fits f (fin s m e)) → place f (rnd f (mag f (fin s m e))) ≡ mid f + mag f (fin s m e)
rnd_fix f s m e h =
    let a = mag f (fin s m e) in
    let w = mag_pow f s m e h in
    place_of_value f (rnd f a) a (round-fits f false a (2 ^ low f))
    (round_exact f false a (2 ^ low f) m w.0 (pow_pos (low f)) (digits f s m e h)
    (lt_of_lt_of_le (rw w.1 at (mag_lt f s e m h)) (le_of_eq (mid_is f)))
    (ap (λ (z : ℕ). z * 2 ^ low f) w.1))

zero_fits : (f : Format) → T (fits f (fin false zero (pos zero)))
unfolding fits
zero_fits f = tt

zero_mag : (f : Format) → mag f (fin false zero (pos zero)) ≡ 0
zero_mag f = sym (mul-one _) ∙ sym (mag_exact f false (pos zero) zero (zero_fits f)) ∙ zero-mul (2 ^ low f)

rnd_zero : (f : Format) → place f (rnd f 0) ≡ mid f
rnd_zero f = ap (λ (z : ℕ). place f (rnd f z)) (sym (zero_mag f)) ∙ rnd_fix f false zero (pos zero) (zero_fits f) ∙ omega (arith, zero_mag f)

place_top : (f : Format) (x : Float) → Held f x → place f x ≤ mid f + mid f
place_top f nan p = absurd p.num
place_top f (inf true) p = omega (arith, place_inf f true)
place_top f (inf false) p = omega (arith, place_inf f false)
place_top f (fin s m e) p = omega (arith, fin_under f e s m p.fit)

-- z at most u units is at most u rounded; z at least u units is at least u rounded
rnd_le : (f : Format) (z : Float) (u : ℕ) → Held f z → place f z < mid f + mid f → place f z ≤ mid f + u → place f z ≤ place f (rnd f u)
unfolding place
rnd_le f nan u p b h = absurd p.num
rnd_le f (inf true) u p b h = omega (arith, rnd_ge_mid f u, place_inf f true)
rnd_le f (inf false) u p b h = omega (arith, place_inf f false)
rnd_le f (fin true m e) u p b h = omega (arith, rnd_ge_mid f u)
rnd_le f (fin false m e) u p b h = omega (arith, rnd_fix f false m e p.fit, rnd_mono f (mag f (fin false m e)) u (omega arith))

rnd_ge : (f : Format) (z : Float) (u : ℕ) → Held f z → mid f + u ≤ place f z → place f (rnd f u) ≤ place f z
unfolding place
rnd_ge f nan u p h = absurd p.num
rnd_ge f (inf true) u p h = omega (arith, mid_pos f, place_inf f true)
rnd_ge f (inf false) u p h = omega (arith, place_inf f false, place_top f (rnd f u) (round_held f false u (2 ^ low f)))
rnd_ge f (fin true m e) u p h = let z : u ≤ 0 = omega (arith, mid_pos f) in omega (arith, rnd_mono f u 0 z, rnd_zero f, mid_pos f)
rnd_ge f (fin false m e) u p h = omega (arith, rnd_fix f false m e p.fit, rnd_mono f u (mag f (fin false m e)) (omega arith))

-- ---- a sum of signed numbers of units: v is the rounded sum's place, S the sum of the two places
pub data Signed (f : Format) (v S : ℕ) : Type 0 where
  over : (u : ℕ) → v ≡ place f (rnd f u) → S ≡ mid f + mid f + u → Signed f v S
  less : (u : ℕ) → v + place f (rnd f u) ≡ mid f + mid f → S + u ≡ mid f + mid f → Signed f v S

round_less : (f : Format) (u : ℕ) → place f (round f true u (2 ^ low f)) + place f (rnd f u) ≡ mid f + mid f
round_less f u = rw round_neg (place_neg f (rnd f u) (round_held f false u (2 ^ low f)))

sum_signed : (f : Format) (s : Bool) (p : ℕ) (t : Bool) (q : ℕ) → p < mid f → q < mid f → Signed f (place f (sum f s p t q (2 ^ low f))) (side (mid f) s p + side (mid f) t q)
unfolding sum
sum_signed f false p false q P Q = over (p + q) refl (omega arith)
sum_signed f true p true q P Q = less (p + q) (round_less f (p + q)) (omega arith)
sum_signed f false p true q P Q = go (ltb p q) (ltb→lt p q) (nltb→le p q)
  where
    go : (b : Bool) → (T b → p < q) → (T (not b) → q ≤ p) → Signed f (place f (cond b (round f true (q - p) (2 ^ low f)) (round f false (p - q) (2 ^ low f)))) (mid f + p + (mid f - q))
    go true h k = let x = h tt in less (q - p) (round_less f (q - p)) (omega arith)
    go false h k = let x = k tt in over (p - q) refl (omega arith)
sum_signed f true p false q P Q = go (ltb p q) (ltb q p) (ltb→lt p q) (nltb→le p q) (ltb→lt q p) (nltb→le q p)
  where
    go : (b c : Bool) → (T b → p < q) → (T (not b) → q ≤ p) → (T c → q < p) → (T (not c) → p ≤ q) → Signed f (place f (cond b (round f false (q - p) (2 ^ low f)) (round f c (p - q) (2 ^ low f)))) (mid f - p + (mid f + q))
    go true c h k h' k' = let x = h tt in over (q - p) refl (omega arith)
    go false true h k h' k' = let x = h' tt in less (p - q) (round_less f (p - q)) (omega arith)
    go false false h k h' k' = let x = k tt in let y = k' tt in over (p - q) refl (omega arith)

-- ---- the sum in units
sub_frac : (a b c p q l : ℕ) → a * l ≡ p * c → b * l ≡ q * c → (b - a) * l ≡ (q - p) * c
sub_frac a b c p q l h k = mul_comm (b - a) l ∙ mul-sub l b a ∙ (λ i. (mul_comm l b ∙ k ∙ mul_comm q c) i - (mul_comm l a ∙ h ∙ mul_comm p c) i) ∙ sym (mul-sub c q p) ∙ mul_comm c (q - p)

module _ (f : Format) (a b c p q : ℕ) (C : 0 < c) (h : a * 2 ^ low f ≡ p * c) (k : b * 2 ^ low f ≡ q * c) where
  sum_same : (s t : Bool) → sum f s a t b c ≡ sum f s p t q (2 ^ low f)
  unfolding sum
  sum_same s t = λ i. cond (beq s t) (r1 i) (cond (same_lt a b c p q (2 ^ low f) C L h k i) (r2 i) (r3 (s && same_lt b a c q p (2 ^ low f) C L k h i) i))
    where
      L : 0 < 2 ^ low f
      L = pow_pos (low f)

      r1 : round f s (a + b) c ≡ round f s (p + q) (2 ^ low f)
      r1 = round_same f s (a + b) c (p + q) (2 ^ low f) C L (add-mul a b (2 ^ low f) ∙ (λ i. h i + k i) ∙ sym (add-mul p q c))

      r2 : round f t (b - a) c ≡ round f t (q - p) (2 ^ low f)
      r2 = round_same f t (b - a) c (q - p) (2 ^ low f) C L (sub_frac a b c p q (2 ^ low f) h k)

      r3 : (s : Bool) → round f s (a - b) c ≡ round f s (p - q) (2 ^ low f)
      r3 s = round_same f s (a - b) c (p - q) (2 ^ low f) C L (sub_frac b a c q p (2 ^ low f) k h)

pub add_units : (f : Format) (s : Bool) (m : ℕ) (e : ℤ) (t : Bool) (n : ℕ) (d : ℤ) → T (fits f (fin s m e)) → T (fits f (fin t n d))
    → add f (fin s m e) (fin t n d) ≡ sum f s (mag f (fin s m e)) t (mag f (fin t n d)) (2 ^ low f)
unfolding add
add_units f s m e t n d g h =
    sum_same f (m * up e * down d) (n * up d * down e) (down e * down d) (mag f (fin s m e)) (mag f (fin t n d)) (mul-pos (down_pos e) (down_pos d))
    (cross_l (m * up e) (2 ^ low f) (mag f (fin s m e)) (down e) (down d) (mag_exact f s e m g))
    (cross_r (n * up d) (2 ^ low f) (mag f (fin t n d)) (down e) (down d) (mag_exact f t d n h)) s t

-- the rounded sum of two finite values, by the exact one
pub add_signed : (f : Format) (x y : Float) → T (finite x) → T (finite y) → T (fits f x) → T (fits f y) → Signed f (place f (add f x y)) (place f x + place f y)
add_signed f nan y p q g h = absurd p
add_signed f (inf s) y p q g h = absurd p
add_signed f (fin s m e) nan p q g h = absurd q
add_signed f (fin s m e) (inf t) p q g h = absurd q
add_signed f (fin s m e) (fin t n d) p q g h = rw (add_units f s m e t n d g h) (unfold place in sum_signed f s (mag f (fin s m e)) t (mag f (fin t n d)) (mag_lt f s e m g) (mag_lt f t d n h))

-- ---- MONOTONE: z is any number of the format
module _ (f : Format) (x y z : Float) (p : T (finite x)) (q : T (finite y)) (g : T (fits f x)) (h : T (fits f y)) (Z : Held f z) where
  -- an exact sum of z at least is rounded to z at least
  pub add_above : place f z < mid f + mid f → place f z + mid f ≤ place f x + place f y → place f z ≤ place f (add f x y)
  add_above b k = go (add_signed f x y p q g h)
    where
      go : Signed f (place f (add f x y)) (place f x + place f y) → place f z ≤ place f (add f x y)
      go (over u v e) = omega (arith, rnd_le f z u Z b (omega arith))
      go (less u v e) = omega (arith, place_neg f z Z, rnd_ge f (neg z) u (neg_held Z) (omega (arith, place_neg f z Z)))

  -- an exact sum of at most z is rounded to at most z
  pub add_below : 0 < place f z → place f x + place f y ≤ place f z + mid f → place f (add f x y) ≤ place f z
  add_below b k = go (add_signed f x y p q g h)
    where
      go : Signed f (place f (add f x y)) (place f x + place f y) → place f (add f x y) ≤ place f z
      go (over u v e) = omega (arith, rnd_ge f z u Z (omega arith))
      go (less u v e) = omega (arith, place_neg f z Z, rnd_le f (neg z) u (neg_held Z) (omega (arith, place_neg f z Z)) (omega (arith, place_neg f z Z)))

-- a rounded sum grows with each part
module _ (f : Format) (x x' y : Float) (p : T (finite x)) (p' : T (finite x')) (q : T (finite y)) (g : T (fits f x)) (g' : T (fits f x')) (h : T (fits f y)) where
  pub add_mono : T (le x x') → T (le (add f x y) (add f x' y))
  add_mono k =
      up_le f (add f x y) (add f x' y) (held (add-fits f x y) (add_number f x y p (finite_number y q))) (held (add-fits f x' y) (add_number f x' y p' (finite_number y q)))
      (go (le_up f x x' (held g (finite_number x p)) (held g' (finite_number x' p')) k) (add_signed f x y p q g h) (add_signed f x' y p' q g' h))
    where
      go : place f x ≤ place f x' → Signed f (place f (add f x y)) (place f x + place f y) → Signed f (place f (add f x' y)) (place f x' + place f y) → place f (add f x y) ≤ place f (add f x' y)
      go o (over u v e) (over u' v' e') = omega (arith, rnd_mono f u u' (omega arith))
      go o (over u v e) (less u' v' e') = let z : u ≤ 0 = omega arith in let z' : u' ≤ 0 = omega arith in omega (arith, rnd_mono f u 0 z, rnd_mono f u' 0 z', rnd_zero f)
      go o (less u v e) (over u' v' e') = omega (arith, rnd_ge_mid f u, rnd_ge_mid f u')
      go o (less u v e) (less u' v' e') = omega (arith, rnd_mono f u' u (omega arith))
