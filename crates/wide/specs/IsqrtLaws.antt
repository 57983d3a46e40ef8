-- The whole square root is the largest number whose square is at most n, alone so, and keeps the order. Assumes nothing.
use Rattle.std.specs.Prelude.{◌≡◌, ℕ, zero, suc, ◌+◌, ◌*◌, ◌/◌, ◌^◌, ◌<◌, ◌≤◌, Bool, true, false, cond, not, T, nat_le, refl}
use Rattle.std.proofs.Common.{subst, le_trans, le_antisymm, le_of_suc-le-suc, lt_of_not-le, not-le_of_lt, mul-le-mul, mul_assoc, mul_left_comm, pow-suc, arith, leb→le}
use Rattle.std.proofs.Math.Dec.{nleb→lt}
use Rattle.std.specs.Float.Ieee.{size}
use Rattle.std.specs.Float.Ieee.Digits.{size-lt}
use Rattle.wide.specs.Isqrt.{next, digits, isqrt, Root}

four : (s : ℕ) → (2 * s) * (2 * s) ≡ 4 * (s * s)
four s = simp (mul_assoc, mul_left_comm) (omega arith)

next_root : (s n : ℕ) → Root (n / 4) s → Root n (next s n)
next_root s n r = go (nat_le ((2 * s + 1) * (2 * s + 1)) n) (leb→le ((2 * s + 1) * (2 * s + 1)) n) (nleb→lt ((2 * s + 1) * (2 * s + 1)) n)
  where
    low₀ : (2 * s) * (2 * s) ≤ n
    low₀ = omega (arith, four s, r.low)

    high₀ : n < (2 * suc s) * (2 * suc s)
    high₀ = omega (arith, four (suc s), r.high)

    go : (b : Bool) → (T b → (2 * s + 1) * (2 * s + 1) ≤ n) → (T (not b) → n < (2 * s + 1) * (2 * s + 1)) → Root n (cond b (2 * s + 1) (2 * s))
    go true h k = record { low = h tt; high = subst (λ (z : ℕ). n < z * z) (omega arith) high₀ }
    go false h k = record { low = low₀; high = subst (λ (z : ℕ). n < z * z) (omega arith) (k tt) }

digits_root : (k n : ℕ) → n < 2 ^ k → Root n (digits k n)
unfolding digits
digits_root zero n h = record { low = omega arith; high = omega arith }
digits_root (suc k) n h = next_root (digits k (n / 4)) n (digits_root k (n / 4) (omega (arith, pow-suc 2 k)))

pub isqrt_root : (n : ℕ) → Root n (isqrt n)
unfolding isqrt
isqrt_root n = digits_root (size n) n (size-lt n)

-- two numbers whose squares enclose: s ≤ t
pub root_le : (a b s t : ℕ) → Root a s → Root b t → a ≤ b → s ≤ t
root_le a b s t p q h = le_of_suc-le-suc (lt_of_not-le (λ (g : suc t ≤ s). not-le_of_lt q.high (le_trans (mul-le-mul g g) (le_trans p.low h))))

pub isqrt_unique : (n s : ℕ) → Root n s → s ≡ isqrt n
isqrt_unique n s p = le_antisymm (root_le n n s (isqrt n) p (isqrt_root n) (omega arith)) (root_le n n (isqrt n) s (isqrt_root n) p (omega arith))

pub isqrt_mono : (a b : ℕ) → a ≤ b → isqrt a ≤ isqrt b
isqrt_mono a b h = root_le a b (isqrt a) (isqrt b) (isqrt_root a) (isqrt_root b) h

-- it computes
example : isqrt (10 ^ 40 + 7) ≡ 10 ^ 20
unfolding isqrt size
example = refl
