-- Facts about every number below n. Assumes nothing.
use Rattle.std.specs.Prelude.{◌≡◌, Bool, true, false, not, ℕ, zero, suc, ◌<◌, ◌≤◌, T, ltb}
use Rattle.std.proofs.Common.{arith, ltb→lt, nltb→le}
use Rattle.common.specs.Iter.{iter}

-- anything holds of all below 0
pub below_none : (P : ℕ → Type 0) (i : ℕ) → i < 0 → P i
below_none P i h = absurd (no h)
  where
    no : i < 0 → ⊥
    no h = omega arith

-- what holds of n and of all below n holds of all below n + 1
pub below_next : (P : ℕ → Type 0) (n : ℕ) → P n → ((i : ℕ) → i < n → P i) → (i : ℕ) → i < suc n → P i
below_next P n p q i h = go (ltb i n) (ltb→lt i n) (nltb→le i n)
  where
    go : (b : Bool) → (T b → i < n) → (T (not b) → n ≤ i) → P i
    go true a b = q i (a tt)
    go false a b = let k : n ≤ i = b tt in let e : n ≡ i = omega arith in rw e at p

-- the three parts of a vector, the four of a quaternion or a pyramid
pub below_three : (P : ℕ → Type 0) → P 0 → P 1 → P 2 → (i : ℕ) → i < 3 → P i
below_three P a b c = below_next P 2 c (below_next P 1 b (below_next P 0 a (below_none P)))

pub below_four : (P : ℕ → Type 0) → P 0 → P 1 → P 2 → P 3 → (i : ℕ) → i < 4 → P i
below_four P a b c d = below_next P 3 d (below_three P a b c)

-- a loop of n turns, each of which takes what holds of its number to what holds of the next
pub below_turns : {A : Type 0} (P : ℕ → A → Type 0) (f : ℕ → A → A) (a : A) (n : ℕ) → ((k : ℕ) → k < n → (x : A) → P k x → P (suc k) (f k x)) → P 0 a → P n (iter f a n)
unfolding iter
below_turns P f a zero h p = p
below_turns P f a (suc n) h p = h n (omega arith) (iter f a n) (below_turns P f a n (λ k l. h k (omega arith)) p)
