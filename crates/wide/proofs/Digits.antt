-- The root's digits from the top: what is open of it after each. Assumes nothing.
use Rattle.std.proofs.Common.{◌≡◌, ℕ, ◌+◌, ◌*◌, ◌^◌, ◌<◌, ◌≤◌, subst, add-one, arith}
use Rattle.wide.specs.Isqrt.{isqrt}
use Rattle.wide.specs.IsqrtLaws.{isqrt_unique}
use Rattle.wide.proofs.Products.{below}

-- the root of n is s with k digits more
pub record Open (n s k : ℕ) : Type 0 where
  pub low : s * s ≤ n
  pub high : n < (s + 2 ^ k) * (s + 2 ^ k)
  pub room : s + 2 ^ k ≤ 2 ^ 64

pub between : (n s : ℕ) → s * s ≤ n → n < (s + 1) * (s + 1) → s ≡ isqrt n
between n s l h = isqrt_unique n s (record { low = l; high = subst (λ (z : ℕ). n < z * z) (add-one s) h })

pub closed : (n s : ℕ) → Open n s 0 → s ≡ isqrt n
closed n s h = between n s h.low h.high

-- the largest word is the root of what is not below its square
pub top_root : (hi lo s : ℕ) → hi < 2 ^ 64 → lo < 2 ^ 64 → s ≡ 0xffff_ffff_ffff_ffff → s * s ≤ hi * 2 ^ 64 + lo → s ≡ isqrt (hi * 2 ^ 64 + lo)
top_root hi lo s h l e k =
    let t : 2 ^ 64 ≡ s + 1 = omega arith in
    between _ s k (subst (λ (z : ℕ). hi * 2 ^ 64 + lo < z * z) t (below (2 ^ 64) hi lo (2 ^ 64) h l))
