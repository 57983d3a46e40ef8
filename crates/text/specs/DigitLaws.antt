-- Laws of the digits of specs/Hex.antt, one step of the definition at a time. Assumes nothing.
use Prim.Native.Nat.{ℕ, zero, suc, ◌+◌, ◌-◌, ◌*◌, ◌^◌, ◌≤◌, ◌<◌, ◌%◌, zero-le}
use Rattle.std.proofs.Common.{arith, mul-le-mul_right, lt_of_not-le, sym, ◌∙◌}
use Rattle.std.proofs.Math.Nat.{pow-succ'}
use Rattle.std.specs.Prelude.{◌≡◌, refl, List, true, cond, not, ◌&&◌, T, leb, length, get_or, Option, Some, None}
use Rattle.std.proofs.Math.ListN.{get_or-eq_default}
use Rattle.std.specs.Float.Ieee as Ieee
use Rattle.std.specs.Float.{binary64, nan, inf, fin}
use Rattle.std.specs.Float.Ieee.{of_bits, of_fields, is_nan, nan_bits, div}
use Rattle.std.specs.Float.Ieee.Bits.{nan_bits_is, nan_bits_above}
use borrow.Author.Tests.{lt-ltb, le-ltb, le-leb, lt-leb}
use Rattle.text.specs.Hex.{digit, more, hex_at, HexIs, real_at, RealIs, float}

suc_sub_one : (k : ℕ) → suc k - 1 ≡ k
suc_sub_one k = omega arith

-- ---- one digit

pub digit_low : (b : ℕ) → b < 48 → digit b ≡ 16
unfolding digit
digit_low b h = let k : b < 65 = omega arith in let l : b < 97 = omega arith in simp (lt-leb 48 b h, lt-leb 65 b k, lt-leb 97 b l)

pub digit_decimal : (b : ℕ) → 48 ≤ b → b < 58 → digit b ≡ b - 48
unfolding digit
digit_decimal b h k = let l : b ≤ 57 = omega arith in simp (le-leb 48 b h, le-leb b 57 l)

pub digit_between : (b : ℕ) → 58 ≤ b → b < 65 → digit b ≡ 16
unfolding digit
digit_between b h k =
    let l : 57 < b = omega arith in
    let l' : 48 ≤ b = omega arith in
    let m : b < 97 = omega arith in
    simp (le-leb 48 b l', lt-leb b 57 l, lt-leb 65 b k, lt-leb 97 b m)

pub digit_capital : (b : ℕ) → 65 ≤ b → b < 71 → digit b ≡ b - 65 + 10
unfolding digit
digit_capital b h k =
    let l : 57 < b = omega arith in
    let l' : 48 ≤ b = omega arith in
    let u : b ≤ 70 = omega arith in
    simp (le-leb 48 b l', lt-leb b 57 l, le-leb 65 b h, le-leb b 70 u)

-- past the capitals
abbrev smalls : ℕ → ℕ
smalls b = cond (leb 97 b && leb b 102) (b - 97 + 10) 16

past_capitals : (b : ℕ) → 71 ≤ b → digit b ≡ smalls b
unfolding digit
past_capitals b h =
    let l : 57 < b = omega arith in
    let l' : 48 ≤ b = omega arith in
    let m : 65 ≤ b = omega arith in
    let u : 70 < b = omega arith in
    simp (le-leb 48 b l', lt-leb b 57 l, le-leb 65 b m, lt-leb b 70 u)

pub digit_middle : (b : ℕ) → 71 ≤ b → b < 97 → digit b ≡ 16
digit_middle b h k = past_capitals b h ∙ simp (lt-leb 97 b k)

pub digit_small : (b : ℕ) → 97 ≤ b → b < 103 → digit b ≡ b - 97 + 10
digit_small b h k = let m : 71 ≤ b = omega arith in let u : b ≤ 102 = omega arith in past_capitals b m ∙ simp (le-leb 97 b h, le-leb b 102 u)

pub digit_high : (b : ℕ) → 103 ≤ b → digit b ≡ 16
digit_high b h =
    let m : 71 ≤ b = omega arith in
    let l : 97 ≤ b = omega arith in
    let u : 102 < b = omega arith in
    past_capitals b m ∙ simp (le-leb 97 b l, lt-leb b 102 u)

digit_zero : digit 0 ≡ 16
unfolding digit
digit_zero = refl

-- where a digit stands, the text has not ended
pub digit_within : (s : List ℕ) (at : ℕ) → digit (get_or s at 0) < 16 → at < length s
digit_within s at h = lt_of_not-le (λ (g : length s ≤ at). let z : digit (get_or s at 0) ≡ 16 = rw (get_or-eq_default s 0 g) digit_zero in omega arith)

module _ (s : List ℕ) (at m v : ℕ) (e : v ≡ digit (get_or s at 0)) where
  pub more_step : (k : ℕ) → 0 < k → v < 16 → more s k at m ≡ more s (k - 1) (at + 1) (m + v * 16 ^ (k - 1))
  unfolding more
  more_step zero p h = absurd (omega arith)
  more_step (suc k) p h = simp (← e, lt-ltb _ _ h, suc_sub_one)

  pub more_stop : (k : ℕ) → 0 < k → 16 ≤ v → more s k at m ≡ Some (m, at)
  unfolding more
  more_stop zero p h = absurd (omega arith)
  more_stop (suc k) p h = simp (← e, le-ltb _ _ h)

pub more_end : (s : List ℕ) (at m k : ℕ) → k ≡ 0 → more s k at m ≡ Some (m, at)
unfolding more
more_end s at m k e = rw e

pub hex_at_step : (s : List ℕ) (at v : ℕ) → v ≡ digit (get_or s at 0) → v < 16 → hex_at s at ≡ more s 15 (at + 1) (v * 1152921504606846976)
unfolding hex_at
hex_at_step s at v e h = simp (← e, lt-ltb _ _ h)

pub hex_at_none : (s : List ℕ) (at v : ℕ) → v ≡ digit (get_or s at 0) → 16 ≤ v → hex_at s at ≡ None
unfolding hex_at
hex_at_none s at v e h = simp (← e, le-ltb _ _ h)

-- the next weight
pub sixteenth : (k : ℕ) → 0 < k → 16 ^ k ≡ 16 * 16 ^ (k - 1)
sixteenth zero p = absurd (omega arith)
sixteenth (suc k) p = rw suc_sub_one (pow-succ' 16 k)

pub weighed : (d u : ℕ) → d < 16 → d * u ≤ 15 * u
weighed d u h = mul-le-mul_right u (omega arith)

-- ---- floats

-- what a NaN's pattern is read as is what 0.0 / 0.0 gives
zero_over_zero : div binary64 (of_bits binary64 0) (of_bits binary64 0) ≡ nan
unfolding div of_bits of_fields
zero_over_zero = refl

is_nan_law : (x : Ieee.Float) → is_nan x ≡ true → x ≡ nan
unfolding is_nan
is_nan_law nan h = refl
is_nan_law (inf s) h = let z : ◌≡◌ {A = ℕ} 0 1 = cc in absurd (omega arith)
is_nan_law (fin s m e) h = let z : ◌≡◌ {A = ℕ} 0 1 = cc in absurd (omega arith)

pub nan_is : (m : ℕ) → 0x7ff0_0000_0000_0000 < m % 0x8000_0000_0000_0000 → div binary64 (of_bits binary64 0) (of_bits binary64 0) ≡ of_bits binary64 m
nan_is m h = zero_over_zero ∙ sym (is_nan_law (of_bits binary64 m) (sym (nan_bits_is binary64 m) ∙ nan_bits_above binary64 m ∙ lt-ltb _ _ h))

pub no_nan_bits : (m : ℕ) → m % 0x8000_0000_0000_0000 ≤ 0x7ff0_0000_0000_0000 → T (not (nan_bits binary64 m))
no_nan_bits m h = rw (nan_bits_above binary64 m ∙ le-ltb _ _ h) tt

pub real_is : (s : List ℕ) (at m i : ℕ) (x : Ieee.Float) (r : Option (ℕ × ℕ)) → HexIs s at r → r ≡ Some (m, i) → x ≡ float m → RealIs s at (Some (x, i))
unfolding real_at
real_is s at m i x r h e n = record { is = rw (← h.is, e, n); within = rw e at h.within }

pub real_wrong : (s : List ℕ) (at : ℕ) (r : Option (ℕ × ℕ)) → HexIs s at r → r ≡ None → RealIs s at None
unfolding real_at
real_wrong s at r h e = record { is = rw (← h.is, e); within = zero-le }
