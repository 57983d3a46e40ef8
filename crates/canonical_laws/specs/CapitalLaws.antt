-- Laws of the digits of specs/Strict.antt, one step of the definition at a time. Assumes nothing.
use Prim.Native.Nat.{ℕ, zero, suc, ◌+◌, ◌-◌, ◌*◌, ◌^◌, ◌≤◌, ◌<◌}
use Rattle.std.proofs.Common.{arith, lt_of_not-le}
use Rattle.std.specs.Prelude.{◌≡◌, refl, List, length, get_or, None}
use Rattle.std.proofs.Math.ListN.{get_or-eq_default}
use borrow.Author.Tests.{lt-ltb, le-ltb, le-leb, lt-leb}
use Rattle.canonical_laws.specs.Strict.{capital, stop, strict_more, strict_hex_at}

suc_sub_one : (k : ℕ) → suc k - 1 ≡ k
suc_sub_one k = omega arith

-- ---- one digit

pub capital_low : (b : ℕ) → b < 48 → capital b ≡ 16
unfolding capital
capital_low b h = let k : b < 65 = omega arith in simp (lt-leb 48 b h, lt-leb 65 b k)

pub capital_decimal : (b : ℕ) → 48 ≤ b → b < 58 → capital b ≡ b - 48
unfolding capital
capital_decimal b h k = let l : b ≤ 57 = omega arith in simp (le-leb 48 b h, le-leb b 57 l)

pub capital_between : (b : ℕ) → 58 ≤ b → b < 65 → capital b ≡ 16
unfolding capital
capital_between b h k = let l : 57 < b = omega arith in let l' : 48 ≤ b = omega arith in simp (le-leb 48 b l', lt-leb b 57 l, lt-leb 65 b k)

pub capital_letter : (b : ℕ) → 65 ≤ b → b < 71 → capital b ≡ b - 65 + 10
unfolding capital
capital_letter b h k =
    let l : 57 < b = omega arith in
    let l' : 48 ≤ b = omega arith in
    let u : b ≤ 70 = omega arith in
    simp (le-leb 48 b l', lt-leb b 57 l, le-leb 65 b h, le-leb b 70 u)

pub capital_high : (b : ℕ) → 71 ≤ b → capital b ≡ 16
unfolding capital
capital_high b h =
    let l : 57 < b = omega arith in
    let l' : 48 ≤ b = omega arith in
    let m : 65 ≤ b = omega arith in
    let u : 70 < b = omega arith in
    simp (le-leb 48 b l', lt-leb b 57 l, le-leb 65 b m, lt-leb b 70 u)

capital_zero : capital 0 ≡ 16
unfolding capital
capital_zero = refl

-- where a digit stands, the text has not ended
pub capital_within : (s : List ℕ) (at : ℕ) → capital (get_or s at 0) < 16 → at < length s
capital_within s at h = lt_of_not-le (λ (g : length s ≤ at). let z : capital (get_or s at 0) ≡ 16 = rw (get_or-eq_default s 0 g) capital_zero in omega arith)

module _ (s : List ℕ) (at m last v : ℕ) (e : v ≡ capital (get_or s at 0)) where
  pub more_step : (k : ℕ) → 0 < k → v < 16 → strict_more s k at m last ≡ strict_more s (k - 1) (at + 1) (m + v * 16 ^ (k - 1)) v
  unfolding strict_more
  more_step zero p h = absurd (omega arith)
  more_step (suc k) p h = simp (← e, lt-ltb _ _ h, suc_sub_one)

  pub more_stop : (k : ℕ) → 0 < k → 16 ≤ v → strict_more s k at m last ≡ stop m last at
  unfolding strict_more
  more_stop zero p h = absurd (omega arith)
  more_stop (suc k) p h = simp (← e, le-ltb _ _ h)

pub more_end : (s : List ℕ) (at m last k : ℕ) → k ≡ 0 → strict_more s k at m last ≡ stop m last at
unfolding strict_more
more_end s at m last k e = rw e

pub strict_step : (s : List ℕ) (at v : ℕ) → v ≡ capital (get_or s at 0) → v < 16 → strict_hex_at s at ≡ strict_more s 15 (at + 1) (v * 1152921504606846976) 1
unfolding strict_hex_at
strict_step s at v e h = simp (← e, lt-ltb _ _ h)

pub strict_none : (s : List ℕ) (at v : ℕ) → v ≡ capital (get_or s at 0) → 16 ≤ v → strict_hex_at s at ≡ None
unfolding strict_hex_at
strict_none s at v e h = simp (← e, le-ltb _ _ h)
