-- What a counted loop keeps, what two of them keep between them, and turns that change nothing. Assumes nothing.
use Rattle.std.specs.Prelude.{ℕ, zero, suc, ◌<◌, ◌≤◌, ◌≡◌, refl, Bool, true, false, eqb}
use Rattle.std.proofs.Common.{sym, arith, eqb-true}
use Rattle.std.proofs.lemmas.Bool.{eqb-false}
use Rattle.common.specs.Iter.{iter}

pub iter_ind : {A : Type 0} (P : ℕ → A → Type 0) (f : ℕ → A → A) (a : A) (n : ℕ) → P 0 a → ((k : ℕ) (s : A) → k < n → P k s → P (suc k) (f k s)) → P n (iter f a n)
unfolding iter
iter_ind P f a zero p h = p
iter_ind P f a (suc n) p h = h n (iter f a n) (omega arith) (iter_ind P f a n p (λ k s l. h k s (omega arith)))

pub iter_pair : {A : Type 0} (R : A → A → Type 0) (f g : ℕ → A → A) (a b : A) (n : ℕ) → R a b
    → ((k : ℕ) (s r : A) → k < n → R s r → R (f k s) (g k r)) → R (iter f a n) (iter g b n)
unfolding iter
iter_pair R f g a b n p h = iter_ind (λ k s. R s (iter g b k)) f a n p (λ k s l. h k s (iter g b k) l)

-- turns that change nothing
pub iter_skip : {A : Type 0} (f : ℕ → A → A) (a : A) (k m : ℕ) {s : A} → k ≤ m → s ≡ iter f a k → ((z : ℕ) → k ≤ z → z < m → f z s ≡ s) → s ≡ iter f a m
unfolding iter
iter_skip f a k zero h p q = let e : k ≡ 0 = omega arith in rw e at p
iter_skip f a k (suc m) {s} h p q = by (eqb k (suc m)) refl (λ g. iter_skip f a k m g p (λ z w l. q z w (omega arith)))
  where
    by : (b : Bool) → eqb k (suc m) ≡ b → (k ≤ m → s ≡ iter f a m) → s ≡ f m (iter f a m)
    by true e r = rw (eqb-true k (suc m) e) at p
    by false e r =
        let ne : k ≡ suc m → ⊥ = eqb-false k (suc m) e in
        rw (← r (omega arith)) (sym (q m (omega arith) (omega arith)))
