-- `sqrt` over floats: no float is nearer to the root, a square's root is exact, and the order is kept from 0 to infinity. Assumes nothing.
use Rattle.std.specs.Prelude.{◌≡◌, ℕ, zero, suc, ◌+◌, ◌-◌, ◌*◌, ◌/◌, ◌^◌, ◌<◌, ◌≤◌, Bool, true, false, cond, not, ◌&&◌, ◌||◌, T, ℤ, pos, negsuc, ◌==◌, from_bits, nat_lt, Float}
use Rattle.std.proofs.Common.{sym, ap, ap₂, ◌∙◌, subst, true≢false, le_refl, le_trans, le_of_eq, le_antisymm, le_of_suc-le-suc, lt_of_le_of_lt, lt_of_not-le, not-le_of_lt, mul-le-mul, mul-lt-mul_of_pos_right, mul-pos, mul_assoc, mul-one, zero-mul, mul-add, add-mul, mul-div_cancel, zero-lt-suc, arith, lt→ltb, ltb→lt, eqb→eq, pow_pos, pow-add}
use Rattle.std.proofs.Math.Pow.{pow-lt}
use Rattle.std.specs.Float.{nan, inf, fin, binary64}
use Rattle.std.specs.Float.Ieee.{up, down, size, hid, top, below, level, lt, eq, le, fits, to_bits}
use Rattle.std.specs.Float.Ieee.Bits.{of_bits-to_bits}
use Rattle.std.specs.Float.Ieee.Exact.{HasValue}
use Rattle.std.specs.Float.Ieee.Fits.{up_pos, down_pos}
use Rattle.std.specs.Float.Ieee.Positive.{den, positive, den_pos, value→cross}
use Rattle.float.specs.Sqrt.{sqrt}
use Rattle.float.specs.SqrtLaws.{grid_root, near_above, near_below, square_units, fits_parts, sqrt_fits, sqrt_value, sqrt_mono}

-- ---- two values of the format that are the same number are the same
bits_of : (x : Float) (s : Bool) (a : ℕ) → HasValue x s a (2 ^ 1074) → to_bits binary64 x ≡ cond s (top binary64) 0 + (size a - 53) * hid binary64 + a / 2 ^ (size a - 53)
unfolding to_bits
bits_of nan s a h = absurd h
bits_of (inf t) s a h = absurd h
bits_of (fin t m e) s a h =
    ap₂ (λ (t : Bool) (n : ℕ). cond t (top binary64) 0 + (size n - 53) * hid binary64 + n / 2 ^ (size n - 53)) h.0
    (ap (λ (z : ℕ). z / down e) h.1 ∙ mul-div_cancel a (down_pos e))

pub same_value : (x y : Float) (s : Bool) (a : ℕ) → T (fits binary64 x) → T (fits binary64 y) → HasValue x s a (2 ^ 1074) → HasValue y s a (2 ^ 1074) → x ≡ y
same_value x y s a p q h k = sym (of_bits-to_bits binary64 x p) ∙ ap (from_bits binary64) (bits_of x s a h ∙ sym (bits_of y s a k)) ∙ of_bits-to_bits binary64 y q

-- ---- a value of the format, in units of its smallest: at most 53 digits, and zeros
pub record Grid (z : ℕ) : Type 0 where
  pub m : ℕ
  pub j : ℕ
  pub digits : m ≤ 2 ^ 53
  pub is : m * 2 ^ j ≡ z

depth : (k : ℕ) → 2 ^ suc k ≤ 2 ^ 1074 → suc k ≤ 1074
depth k h = le_of_suc-le-suc (lt_of_not-le (λ (g : suc 1074 ≤ suc k). not-le_of_lt (pow-lt g) h))

cancel : (a b d : ℕ) → 0 < d → a * d ≡ b * d → a ≡ b
cancel a b d p e = sym (mul-div_cancel a p) ∙ ap (λ (z : ℕ). z / d) e ∙ mul-div_cancel b p

pub on_grid : (y : Float) (z : ℕ) → T (fits binary64 y) → HasValue y false z (2 ^ 1074) → Grid z
on_grid nan z f v = absurd v
on_grid (inf s) z f v = absurd v
on_grid (fin s zero e) z f v =
    record { m = 0; j = 0; digits = omega arith; is = cancel 0 z (down e) (down_pos e) (zero-mul (down e) ∙ sym (sym v.1 ∙ ap (λ (w : ℕ). w * 2 ^ 1074) (zero-mul (up e)) ∙ zero-mul (2 ^ 1074))) }
on_grid (fin s (suc m) (pos k)) z f v =
    record { m = suc m; j = k + 1074; digits = omega (arith, (fits_parts s m (pos k) f).digits); is = ap (λ (w : ℕ). suc m * w) (pow-add 2 k 1074) ∙ sym (mul_assoc (suc m) (2 ^ k) (2 ^ 1074)) ∙ v.1 ∙ mul-one z }
on_grid (fin s (suc m) (negsuc k)) z f v =
    let d : suc k ≤ 1074 = depth k (fits_parts s m (negsuc k) f).deep in
    let e : 1074 - suc k + suc k ≡ 1074 = omega arith in
    let q : suc m * 2 ^ (1074 - suc k) * 2 ^ suc k ≡ z * 2 ^ suc k = mul_assoc (suc m) (2 ^ (1074 - suc k)) (2 ^ suc k) ∙ ap (λ (w : ℕ). suc m * w) (sym (pow-add 2 (1074 - suc k) (suc k)) ∙ ap (λ (w : ℕ). 2 ^ w) e) ∙ ap (λ (w : ℕ). w * 2 ^ 1074) (sym (mul-one (suc m))) ∙ v.1 in
    record { m = suc m; j = 1074 - suc k; digits = omega (arith, (fits_parts s m (negsuc k) f).digits); is = cancel (suc m * 2 ^ (1074 - suc k)) z (2 ^ suc k) (pow_pos (suc k)) q }

-- ---- no float is nearer: the middle of the root's float and another one, squared, is on the other's side of the number
module _ (x y : Float) (z : ℕ) (f : T (fits binary64 y)) (v : HasValue y false z (2 ^ 1074)) where
  pub none_nearer_above : grid_root binary64 (square_units x) < z → 4 * square_units x ≤ (grid_root binary64 (square_units x) + z) * (grid_root binary64 (square_units x) + z)
  none_nearer_above h =
      let g = on_grid y z f v in
      let r = grid_root binary64 (square_units x) in
      subst (λ (w : ℕ). 4 * square_units x ≤ (r + w) * (r + w)) g.is (near_above binary64 (square_units x) g.m g.j g.digits (subst (λ (w : ℕ). r < w) (sym g.is) h))

  pub none_nearer_below : z < grid_root binary64 (square_units x) → (grid_root binary64 (square_units x) + z) * (grid_root binary64 (square_units x) + z) ≤ 4 * square_units x
  none_nearer_below h =
      let g = on_grid y z f v in
      let r = grid_root binary64 (square_units x) in
      subst (λ (w : ℕ). (r + w) * (r + w) ≤ 4 * square_units x) g.is (near_below binary64 (square_units x) g.m g.j g.digits (subst (λ (w : ℕ). w < r) (sym g.is) h))

-- ---- exact on squares
four_squares : (z : ℕ) → (z + z) * (z + z) ≡ 4 * (z * z)
four_squares z = simp (mul-add, add-mul) (omega arith)

square_less : (a b : ℕ) → a < b → a * a < b * b
square_less a b h = lt_of_le_of_lt (mul-le-mul {n₁ = a} {m₁ = a} {n₂ = a} {m₂ = b} (le_refl a) (omega arith)) (mul-lt-mul_of_pos_right h (omega arith))

module _ (x y : Float) (u z : ℕ) (fx : T (fits binary64 x)) (fy : T (fits binary64 y)) (p : T (positive x)) (vx : HasValue x false u (2 ^ 1074)) (vy : HasValue y false z (2 ^ 1074)) where
  -- where the number is y * y, its root is y
  pub square_exact : u * 2 ^ 1074 ≡ z * z → sqrt binary64 x ≡ y
  square_exact e =
      let r = grid_root binary64 (square_units x) in
      let n : square_units x ≡ z * z = ap (λ (w : ℕ). w / den x * 2 ^ 1074) (value→cross x u (2 ^ 1074) vx) ∙ ap (λ (w : ℕ). w * 2 ^ 1074) (mul-div_cancel u (den_pos x)) ∙ e in
      let l : z ≤ r = le_of_suc-le-suc (lt_of_not-le (λ (g : suc r ≤ z). not-le_of_lt (square_less (r + z) (z + z) (omega arith)) (le_trans (le_of_eq (four_squares z ∙ ap (λ (w : ℕ). 4 * w) (sym n))) (none_nearer_above x y z fy vy g)))) in
      let h : r ≤ z = le_of_suc-le-suc (lt_of_not-le (λ (g : suc z ≤ r). not-le_of_lt (square_less (z + z) (r + z) (omega arith)) (le_trans (none_nearer_below x y z fy vy g) (le_of_eq (ap (λ (w : ℕ). 4 * w) n ∙ sym (four_squares z)))))) in
      same_value (sqrt binary64 x) y false z (sqrt_fits binary64 x fx) fy (subst (λ (w : ℕ). HasValue (sqrt binary64 x) false w (2 ^ 1074)) (le_antisymm h l) (sqrt_value x fx p)) vy

-- ---- it keeps the order, from 0 to infinity
-- neither a NaN nor below 0
abbrev pub from_zero_value : Float → Bool
from_zero_value nan = false
from_zero_value (inf s) = not s
from_zero_value (fin s zero e) = true
from_zero_value (fin s (suc m) e) = not s

or_l : (a b : Bool) → T a → T (a || b)
or_l true b t = tt
or_l false b t = absurd t

-- a zero of either sign is at most each number that is not below 0
zero_first : (s : Bool) (b : ℕ) → T (below s 0 false b || level s 0 false b)
zero_first true zero = tt
zero_first false zero = tt
zero_first true (suc b) = or_l (nat_lt 0 (0 + suc b)) _ (lt→ltb 0 (0 + suc b) (omega arith))
zero_first false (suc b) = or_l (nat_lt 0 (suc b)) _ (lt→ltb 0 (suc b) (zero-lt-suc b))

zero-le : (s : Bool) (e : ℤ) (v : Float) (a c : ℕ) → HasValue v false a c → T (le (fin s zero e) v)
unfolding le lt eq
zero-le s e nan a c h = absurd h
zero-le s e (inf t) a c h = absurd h
zero-le s e (fin true m d) a c h = absurd (true≢false h.0)
zero-le s e (fin false m d) a c h =
    let b = m * up d * down e in
    let q : 0 * up e * down d ≡ 0 = ap (λ (w : ℕ). w * down d) (zero-mul (up e)) ∙ zero-mul (down d) in
    subst (λ (w : ℕ). T (below s w false b || level s w false b)) (sym q) (zero_first s b)

-- a number above 0 is at most no zero
not_first : (t : Bool) (a : ℕ) → 0 < a → T (below false a t 0 || level false a t 0) → ⊥
not_first true a p h = eq_case (a == 0) (eqb→eq a 0) h
  where
    eq_case : (b : Bool) → (T b → a ≡ 0) → T (false || (b && (false || b))) → ⊥
    eq_case true k h = omega (arith, k tt)
    eq_case false k h = h
not_first false a p h = lt_case (nat_lt a 0) (a == 0) (ltb→lt a 0) (eqb→eq a 0) h
  where
    lt_case : (b c : Bool) → (T b → a < 0) → (T c → a ≡ 0) → T (b || (c && true)) → ⊥
    lt_case true c k l h = omega (arith, k tt)
    lt_case false true k l h = omega (arith, l tt)
    lt_case false false k l h = h

above_zero : (m : ℕ) (e : ℤ) (t : Bool) (d : ℤ) → T (le (fin false (suc m) e) (fin t zero d)) → ⊥
unfolding le lt eq
above_zero m e t d h =
    let a = suc m * up e * down d in
    let q : 0 * up d * down e ≡ 0 = ap (λ (w : ℕ). w * down e) (zero-mul (up d)) ∙ zero-mul (down e) in
    not_first t a (mul-pos (mul-pos (zero-lt-suc m) (up_pos e)) (down_pos d)) (subst (λ (w : ℕ). T (below false a t w || level false a t w)) q h)

-- a finite number is at most infinity
le_inf : (v : Float) (a c : ℕ) → HasValue v false a c → T (le v (inf false))
unfolding le lt eq
le_inf nan a c h = absurd h
le_inf (inf t) a c h = absurd h
le_inf (fin t m d) a c h = tt

some : (n : ℕ) → T (nat_lt 0 (suc n))
some n = lt→ltb 0 (suc n) (zero-lt-suc n)

pub sqrt_order : (x y : Float) → T (fits binary64 x) → T (fits binary64 y) → T (from_zero_value x) → T (from_zero_value y) → T (le x y) → T (le (sqrt binary64 x) (sqrt binary64 y))
sqrt_order nan y f g p q h = absurd p
sqrt_order (inf true) y f g p q h = absurd p
sqrt_order (inf false) nan f g p q h = absurd q
sqrt_order (inf false) (inf true) f g p q h = absurd q
sqrt_order (inf false) (inf false) f g p q h = unfold sqrt in h
sqrt_order (inf false) (fin t n d) f g p q h = unfold le lt eq in absurd h
sqrt_order (fin s zero e) nan f g p q h = absurd q
sqrt_order (fin s zero e) (inf true) f g p q h = absurd q
sqrt_order (fin s zero e) (inf false) f g p q h = unfold sqrt le lt eq in tt
sqrt_order (fin s zero e) (fin t zero d) f g p q h = unfold sqrt in h
sqrt_order (fin s zero e) (fin true (suc n) d) f g p q h = absurd q
sqrt_order (fin s zero e) (fin false (suc n) d) f g p q h =
    let r : T (le (fin s zero e) (sqrt binary64 (fin false (suc n) d))) = zero-le s e _ _ _ (sqrt_value (fin false (suc n) d) g (some n)) in
    unfold sqrt in r
sqrt_order (fin true (suc m) e) y f g p q h = absurd p
sqrt_order (fin false (suc m) e) nan f g p q h = absurd q
sqrt_order (fin false (suc m) e) (inf true) f g p q h = absurd q
sqrt_order (fin false (suc m) e) (inf false) f g p q h =
    let r : T (le (sqrt binary64 (fin false (suc m) e)) (inf false)) = le_inf _ _ _ (sqrt_value (fin false (suc m) e) f (some m)) in
    unfold sqrt in r
sqrt_order (fin false (suc m) e) (fin t zero d) f g p q h = absurd (above_zero m e t d h)
sqrt_order (fin false (suc m) e) (fin true (suc n) d) f g p q h = absurd q
sqrt_order (fin false (suc m) e) (fin false (suc n) d) f g p q h = sqrt_mono (fin false (suc m) e) (fin false (suc n) d) f g (some m) (some n) h
