-- The laws of a counted loop, which every proof of a loop cites. Assumes nothing.
use Rattle.std.specs.Prelude.{ℕ, zero, suc, ◌+◌, ◌-◌, ◌*◌, ◌<◌, ◌≤◌, ◌≡◌, refl}
use Rattle.std.proofs.Common.{sym, suc-mul, mul-le-mul_right, zero-add, suc-add, add-one, arith}
use Rattle.common.specs.Iter.{iter}

-- where a loop begins
pub iter_none : {A : Type 0} (f : ℕ → A → A) (a : A) → a ≡ iter f a 0
unfolding iter
iter_none f a = refl

-- one more turn
pub iter_next : {A : Type 0} (f : ℕ → A → A) (a : A) (k : ℕ) {s r : A} → s ≡ iter f a k → r ≡ f k s → r ≡ iter f a (k + 1)
unfolding iter
iter_next f a k p q = rw (add-one k) (rw (← p) q)

stays_by : {A : Type 0} (f : ℕ → A → A) (a : A) (k d : ℕ) {s : A} → s ≡ iter f a k → ((j : ℕ) → f j s ≡ s) → s ≡ iter f a (d + k)
unfolding iter
stays_by f a k zero p q = rw zero-add p
stays_by f a k (suc d) {s} p q = rw suc-add (rw (← stays_by f a k d p q) (sym (q (d + k))))

-- where a turn changes nothing any more, no later one does: the early way out of a loop
pub iter_stays : {A : Type 0} (f : ℕ → A → A) (a : A) (k n : ℕ) {s : A} → k ≤ n → s ≡ iter f a k → ((j : ℕ) → f j s ≡ s) → s ≡ iter f a n
iter_stays f a k n {s} h p q = let e : n - k + k ≡ n = omega arith in rw e at (stays_by f a k (n - k) p q)

-- row k of n rows of c numbers ends within them
pub row_end : (k n c : ℕ) → k < n → k * c + c ≤ n * c
row_end k n c h = rw (suc-mul k c) at (mul-le-mul_right c h)
