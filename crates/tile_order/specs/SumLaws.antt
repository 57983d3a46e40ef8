-- Laws of `sum`: what a rule gives for the numbers below k. Assumes nothing.
use Rattle.std.specs.Prelude.{ℕ, zero, suc, ◌+◌, ◌-◌, ◌*◌, ◌<◌, ◌≤◌, ◌≡◌, refl, Bool, true, false, cond, eqb}
use Rattle.std.proofs.Common.{sym, add-one, arith, eqb-true, eq-eqb, ne_eqb}
use Rattle.std.proofs.lemmas.Bool.{eqb-false}
use Rattle.tile_order.specs.Below.{sum}

pub sum_none : (f : ℕ → ℕ) → 0 ≡ sum f 0
unfolding sum
sum_none f = refl

pub sum_more : (f : ℕ → ℕ) (k : ℕ) {a x : ℕ} → a ≡ sum f k → x ≡ f k → a + x ≡ sum f (k + 1)
unfolding sum
sum_more f k p q = rw (add-one k, ← p, ← q)

pub sum_same : (f g : ℕ → ℕ) (k : ℕ) → ((i : ℕ) → i < k → f i ≡ g i) → sum f k ≡ sum g k
unfolding sum
sum_same f g zero h = refl
sum_same f g (suc k) h = rw (sum_same f g k (λ i l. h i (omega arith)), h k (omega arith))

pub sum_le : (f g : ℕ → ℕ) (k : ℕ) → ((i : ℕ) → i < k → f i ≤ g i) → sum f k ≤ sum g k
unfolding sum
sum_le f g zero h = omega arith
sum_le f g (suc k) h = omega (arith, sum_le f g k (λ i l. h i (omega arith)), h k (omega arith))

-- a part of a sum is at most the whole
pub sum_part : (f : ℕ → ℕ) (k n : ℕ) → k ≤ n → sum f k ≤ sum f n
unfolding sum
sum_part f k zero h = let e : k ≡ 0 = omega arith in rw e (omega arith)
sum_part f k (suc n) h = by (eqb k (suc n)) refl (λ l. sum_part f k n l)
  where
    by : (b : Bool) → eqb k (suc n) ≡ b → (k ≤ n → sum f k ≤ sum f n) → sum f k ≤ sum f n + f n
    by true e g = let q : k ≡ suc n = eqb-true k (suc n) e in rw q (omega arith)
    by false e g = let ne : k ≡ suc n → ⊥ = eqb-false k (suc n) e in omega (arith, g (omega arith))

-- ---- the same numbers in another order

-- g, but 0 at x
unfoldable pub zeroed : (ℕ → ℕ) → ℕ → ℕ → ℕ
zeroed g x v = cond (eqb v x) 0 (g v)

zeroed_other : (g : ℕ → ℕ) (x v : ℕ) → (v ≡ x → ⊥) → zeroed g x v ≡ g v
unfolding zeroed
zeroed_other g x v ne = rw (ne_eqb v x ne)

pub take_out : (g : ℕ → ℕ) (x n : ℕ) → x < n → sum g n ≡ sum (zeroed g x) n + g x
unfolding sum zeroed
take_out g x zero h = absurd (omega arith)
take_out g x (suc n) h = by (eqb x n) refl (λ l. take_out g x n l)
  where
    by : (b : Bool) → eqb x n ≡ b → (x < n → sum g n ≡ sum (zeroed g x) n + g x) → sum g n + g n ≡ sum (zeroed g x) n + zeroed g x n + g x
    by true e r =
        let q : x ≡ n = eqb-true x n e in
        rw (q, eq-eqb n n refl, sum_same (zeroed g n) g n (λ i l. zeroed_other g n i (λ e. omega arith))) (omega arith)
    by false e r =
        let ne : x ≡ n → ⊥ = eqb-false x n e in
        omega (arith, r (omega arith), zeroed_other g x n (λ e. ne (sym e)))

-- numbers below n, no two alike, are not more together than all below n
pub sum_apart : (σ : ℕ → ℕ) (n m : ℕ) (g : ℕ → ℕ) → ((i : ℕ) → i < m → σ i < n) → ((i j : ℕ) → i < j → j < m → σ i ≡ σ j → ⊥) → sum (λ i. g (σ i)) m ≤ sum g n
unfolding sum
sum_apart σ n zero g below apart = omega arith
sum_apart σ n (suc m) g below apart =
    let h = zeroed g (σ m) in
    let e : sum (λ i. g (σ i)) m ≡ sum (λ i. h (σ i)) m = sum_same _ _ m (λ i l. sym (zeroed_other g (σ m) (σ i) (apart i m l (omega arith)))) in
    let r : sum (λ i. h (σ i)) m ≤ sum h n = sum_apart σ n m h (λ i l. below i (omega arith)) (λ i j l k. apart i j l (omega arith)) in
    omega (arith, take_out g (σ m) n (below m (omega arith)))

rest : (M n : ℕ) (g : ℕ → ℕ) → ((i : ℕ) → i < n → g i ≤ M) → sum (λ i. M - g i) n + sum g n ≡ n * M
unfolding sum
rest M zero g h = omega arith
rest M (suc n) g h = omega (arith, rest M n g (λ i l. h i (omega arith)), h n (omega arith))

-- all numbers below n in another order are together as much; only this half is used
pub sum_moved : (M n : ℕ) (g σ : ℕ → ℕ) → ((i : ℕ) → i < n → g i ≤ M) → ((i : ℕ) → i < n → σ i < n) → ((i j : ℕ) → i < j → j < n → σ i ≡ σ j → ⊥)
    → sum g n ≤ sum (λ i. g (σ i)) n
sum_moved M n g σ high below apart =
    omega (
      arith,
      sum_apart σ n n (λ i. M - g i) below apart,
      rest M n g high,
      rest M n (λ i. g (σ i)) (λ i l. high (σ i) (below i l)),
    )
