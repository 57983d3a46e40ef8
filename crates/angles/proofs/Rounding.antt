-- n / 2 ^ 60 as a float, from the two halves of n, and its sign. Assumes nothing.
use Rattle.std.proofs.Common.{◌≡◌, ℕ, zero, suc, ◌+◌, ◌-◌, ◌*◌, ◌/◌, ◌%◌, ◌^◌, ◌<◌, ◌≤◌, Bool, true, false, T, pos, negsuc, sym, refl, ap, ◌∙◌, subst, true≢false, le_trans, lt_of_lt_of_le, le_of_lt, mod-lt, mul_assoc, mul_comm, add-mul, mul-pos, mul_right_comm, lit≤, le→leb, pow_pos, shl_lt, shr_lt}
use lib.Pow.{split}
use lib.Bits.{bit_and, and_mask, mask_lt}
use lib.Ieee.{Float, nan, inf, fin, Format, binary64, up, down, round, neg, add, sum, mul, of_int, in_float, of_bits}
use lib.Ieee.Fits.{down_pos}
use lib.Ieee.Exact.{HasValue, round_exact}
use lib.Ieee.Scale.{round_same}
use lib.Ieee.Back.{round_whole}
use Rattle.angles.specs.Angles.{signed, to_float}
use Rattle.angles.specs.RoundedLaws.{neg_round}

-- ---- a sum of two fractions over one denominator, neither negative

over_one : (m g n e a b c : ℕ) → m * c ≡ a * e → n * c ≡ b * g → (m * g + n * e) * c ≡ (a + b) * (e * g)
over_one m g n e a b c p q =
    add-mul (m * g) (n * e) c
    ∙ ap (λ (z : ℕ). z + n * e * c) (mul_right_comm m g c ∙ ap (λ (z : ℕ). z * g) p ∙ mul_assoc a e g)
    ∙ ap (λ (z : ℕ). a * (e * g) + z) (mul_right_comm n e c ∙ ap (λ (z : ℕ). z * e) q ∙ mul_assoc b g e ∙ ap (λ (z : ℕ). b * z) (mul_comm g e))
    ∙ sym (add-mul a b (e * g))

pub add_at : (f : Format) (x y : Float) (a b c : ℕ) → 0 < c → HasValue x false a c → HasValue y false b c → add f x y ≡ round f false (a + b) c
unfolding add sum
add_at f nan y a b c C h k = absurd h
add_at f (inf s) y a b c C h k = absurd h
add_at f (fin s m e) nan a b c C h k = absurd k
add_at f (fin s m e) (inf t) a b c C h k = absurd k
add_at f (fin true m e) (fin t n d) a b c C h k = absurd (true≢false h.0)
add_at f (fin false m e) (fin true n d) a b c C h k = absurd (true≢false k.0)
add_at f (fin false m e) (fin false n d) a b c C h k =
    round_same f false (m * up e * down d + n * up d * down e) (down e * down d) (a + b) c (mul-pos (down_pos e) (down_pos d)) C
    (over_one (m * up e) (down d) (n * up d) (down e) a b c h.1 k.1)

-- ---- a whole number over a power of two

scaled_down : (m e a p : ℕ) → m * 1 ≡ a * e → m * (1 * 1) * p ≡ a * (e * p)
scaled_down m e a p h = ap (λ (z : ℕ). z * p) h ∙ mul_assoc a e p

down_at : (f : Format) (x : Float) (a k : ℕ) → HasValue x false a 1 → mul f x (fin false 1 (negsuc k)) ≡ round f false a (2 ^ suc k)
unfolding mul
down_at f nan a k h = absurd h
down_at f (inf s) a k h = absurd h
down_at f (fin true m e) a k h = absurd (true≢false h.0)
down_at f (fin false m e) a k h =
    round_same f false (m * up e * (1 * 1)) (down e * 2 ^ suc k) a (2 ^ suc k) (mul-pos (down_pos e) (pow_pos (suc k))) (pow_pos (suc k))
    (scaled_down (m * up e) (down e) a (2 ^ suc k) h.1)

module _ (a : ℕ) (h : a < 2 ^ 32) where
  whole : HasValue (of_int binary64 (pos a)) false a 1
  unfolding of_int
  whole = round_whole binary64 false a (le_trans (le_of_lt h) (lit≤ tt))

  upper : HasValue (mul binary64 (of_int binary64 (pos a)) (fin false 1 (negsuc 27))) false a (2 ^ 28)
  upper =
      subst (λ (z : Float). HasValue z false a (2 ^ 28)) (sym (down_at binary64 (of_int binary64 (pos a)) a 27 whole))
      (round_exact binary64 false a (2 ^ 28) a 1046 (pow_pos 28) (lt_of_lt_of_le h (lit≤ tt))
      (lt_of_lt_of_le (shl_lt 32 1046 h) (lit≤ tt)) (sym (mul_assoc a (2 ^ 1046) (2 ^ 28))))

  lower : HasValue (mul binary64 (of_int binary64 (pos a)) (fin false 1 (negsuc 59))) false a (2 ^ 60)
  lower =
      subst (λ (z : Float). HasValue z false a (2 ^ 60)) (sym (down_at binary64 (of_int binary64 (pos a)) a 59 whole))
      (round_exact binary64 false a (2 ^ 60) a 1014 (pow_pos 60) (lt_of_lt_of_le h (lit≤ tt))
      (lt_of_lt_of_le (shl_lt 32 1014 h) (lit≤ tt)) (sym (mul_assoc a (2 ^ 1014) (2 ^ 60))))

-- the same fraction over 2 ^ 60
wider : (x : Float) (a : ℕ) → HasValue x false a (2 ^ 28) → HasValue x false (a * 2 ^ 32) (2 ^ 60)
wider nan a h = h
wider (inf s) a h = h
wider (fin s m e) a h = (h.0, sym (mul_assoc (m * up e) (2 ^ 28) (2 ^ 32)) ∙ ap (λ (z : ℕ). z * 2 ^ 32) h.1 ∙ mul_right_comm a (down e) (2 ^ 32))

c28 : of_bits binary64 4481081629233643520 ≡ fin false 1 (negsuc 27)
unfolding of_bits
c28 = refl

c60 : of_bits binary64 4336966441157787648 ≡ fin false 1 (negsuc 59)
unfolding of_bits
c60 = refl

pub over_60_law : (n : ℕ) → n < 2 ^ 64
    → add binary64 (mul binary64 (of_int binary64 (pos (n / 2 ^ 32))) (of_bits binary64 4481081629233643520)) (mul binary64 (of_int binary64 (pos (bit_and n (2 ^ 32 - 1)))) (of_bits binary64 4336966441157787648))
    ≡ round binary64 false n (2 ^ 60)
over_60_law n h =
    let a = n / 2 ^ 32 in
    let b = n % 2 ^ 32 in
    (λ i. add binary64 (mul binary64 (of_int binary64 (pos a)) (c28 i)) (mul binary64 (of_int binary64 (pos (and_mask n 32 i))) (c60 i)))
    ∙ add_at binary64 (mul binary64 (of_int binary64 (pos a)) (fin false 1 (negsuc 27))) (mul binary64 (of_int binary64 (pos b)) (fin false 1 (negsuc 59))) (a * 2 ^ 32) b (2 ^ 60) (pow_pos 60)
    (wider (mul binary64 (of_int binary64 (pos a)) (fin false 1 (negsuc 27))) a (upper a (shr_lt 32 32 h))) (lower b (mod-lt n (pow_pos 32)))
    ∙ ap (λ (z : ℕ). round binary64 false z (2 ^ 60)) (split n 32)

-- each half can be cast
half_in : (a : ℕ) → a < 2 ^ 32 → T (in_float binary64 (pos a))
unfolding in_float
half_in a h = le→leb a (2 ^ 53) (le_trans (le_of_lt h) (lit≤ tt))

pub upper_in : (n : ℕ) → n < 2 ^ 64 → T (in_float binary64 (pos (n / 2 ^ 32)))
upper_in n h = half_in (n / 2 ^ 32) (shr_lt 32 32 h)

pub lower_in : (n : ℕ) → T (in_float binary64 (pos (bit_and n (2 ^ 32 - 1))))
lower_in n = half_in (bit_and n (2 ^ 32 - 1)) (mask_lt n 32)

-- ---- the sign

module _ (s : Bool) (n : ℕ) (x : Float) where
  pub float_zero : s ≡ true → n ≡ 0 → x ≡ round binary64 false n (2 ^ 60) → x ≡ to_float (signed s n)
  unfolding to_float
  float_zero e z h = h ∙ ap (λ (k : ℕ). round binary64 false k (2 ^ 60)) z ∙ (λ i. to_float (signed (sym e i) (sym z i)))

  pub float_pos : s ≡ false → x ≡ round binary64 false n (2 ^ 60) → x ≡ to_float (signed s n)
  unfolding to_float
  float_pos e h = h ∙ ap (λ (b : Bool). to_float (signed b n)) (sym e)

  pub float_neg : s ≡ true → (n ≡ 0 → ⊥) → x ≡ round binary64 false n (2 ^ 60) → neg x ≡ to_float (signed s n)
  unfolding to_float
  float_neg e z h = ap neg h ∙ neg_round binary64 n (2 ^ 60) ∙ go n z ∙ ap (λ (b : Bool). to_float (signed b n)) (sym e)
    where
      go : (n : ℕ) → (n ≡ 0 → ⊥) → round binary64 true n (2 ^ 60) ≡ to_float (signed true n)
      go zero z = absurd (z refl)
      go (suc n) z = refl
