-- Laws of `any`: a test at the numbers below k. Assumes nothing.
use Rattle.std.specs.Prelude.{ℕ, zero, suc, ◌+◌, ◌<◌, ◌≡◌, refl, Bool, true, false, ◌||◌, eqb}
use Rattle.std.proofs.Common.{sym, subst, ◌∙◌, add-one, arith, eqb-true}
use Rattle.std.proofs.lemmas.Bool.{eqb-false}
use Rattle.tile_order.specs.Below.{any}

pub any_none : (f : ℕ → Bool) → false ≡ any f 0
unfolding any
any_none f = refl

pub any_more : (f : ℕ → Bool) (k : ℕ) → false ≡ any f k → f k ≡ false → false ≡ any f (k + 1)
unfolding any
any_more f k p q = rw (add-one k, q) p

left_true : (a b : Bool) → a ≡ true → a || b ≡ true
left_true a b e = rw e

right_true : (a b : Bool) → b ≡ true → a || b ≡ true
right_true true b e = refl
right_true false b e = e

-- it holds at k
pub any_hit : (f : ℕ → Bool) (k n : ℕ) → k < n → f k ≡ true → any f n ≡ true
unfolding any
any_hit f k zero h e = absurd (omega arith)
any_hit f k (suc n) h e = by (eqb k n) refl (λ l. any_hit f k n l e)
  where
    by : (b : Bool) → eqb k n ≡ b → (k < n → any f n ≡ true) → f n || any f n ≡ true
    by true q g = left_true (f n) (any f n) (subst (λ i. f i ≡ true) (eqb-true k n q) e)
    by false q g = let ne : k ≡ n → ⊥ = eqb-false k n q in right_true (f n) (any f n) (g (omega arith))

-- where it holds at none, it fails at each
pub any_fails : (f : ℕ → Bool) (k n : ℕ) → k < n → any f n ≡ false → f k ≡ false
any_fails f k n h e = by (f k) refl
  where
    by : (b : Bool) → f k ≡ b → f k ≡ false
    by true q = q ∙ sym (any_hit f k n h q) ∙ e
    by false q = q

-- where it fails at each, it holds at none
pub any_not : (f : ℕ → Bool) (n : ℕ) → ((k : ℕ) → k < n → f k ≡ false) → any f n ≡ false
unfolding any
any_not f zero h = refl
any_not f (suc n) h = rw (h n (omega arith)) (any_not f n (λ k l. h k (omega arith)))

pub any_same : (f g : ℕ → Bool) (k : ℕ) → ((i : ℕ) → i < k → f i ≡ g i) → any f k ≡ any g k
unfolding any
any_same f g zero h = refl
any_same f g (suc k) h = rw (any_same f g k (λ i l. h i (omega arith)), h k (omega arith))
