-- Products of halves of words. Assumes nothing.
use Rattle.std.proofs.Common.{◌≡◌, ℕ, ◌+◌, ◌*◌, ◌/◌, ◌%◌, ◌^◌, ◌<◌, ◌≤◌, Bool, true, false, not, T, ltb, sym, refl, ◌∙◌, subst, ap₂, le_trans, add_assoc, mul-le-mul_right, mul_assoc, suc-mul, mul_comm, add-mul, mul-le-mul, add_comm, lt_of_not-le, div-add-mod', mul-add, not-le_of_lt, mul_left_comm, arith, ltb→lt, lt→ltb, nltb→le}
use native.Mathlib.Nat.{add_left_comm}

cross : (P a₀ a₁ b₀ b₁ : ℕ) → (a₁ * P + a₀) * (b₁ * P + b₀) ≡ a₁ * b₁ * (P * P) + a₁ * b₀ * P + a₀ * b₁ * P + a₀ * b₀
cross P a₀ a₁ b₀ b₁ = simp (mul-add, add-mul, mul_assoc, mul_comm, mul_left_comm, add_assoc, add_comm, add_left_comm) refl

pub word_mul : (a b : ℕ) → a * b ≡ (a / 2 ^ 32) * (b / 2 ^ 32) * (2 ^ 32 * 2 ^ 32) + (a / 2 ^ 32) * (b % 2 ^ 32) * 2 ^ 32 + (a % 2 ^ 32) * (b / 2 ^ 32) * 2 ^ 32 + (a % 2 ^ 32) * (b % 2 ^ 32)
word_mul a b = ap₂ (λ (x y : ℕ). x * y) (sym (div-add-mod' a (2 ^ 32))) (sym (div-add-mod' b (2 ^ 32))) ∙ cross (2 ^ 32) (a % 2 ^ 32) (a / 2 ^ 32) (b % 2 ^ 32) (b / 2 ^ 32)

same_test : (a b : Bool) → (T a → T b) → (T b → T a) → a ≡ b
same_test true true f g = refl
same_test true false f g = absurd (f tt)
same_test false true f g = absurd (g tt)
same_test false false f g = refl

pub same_lt : (a b c d : ℕ) → (a < b → c < d) → (c < d → a < b) → ltb a b ≡ ltb c d
same_lt a b c d f g = same_test (ltb a b) (ltb c d) (λ t. lt→ltb c d (f (ltb→lt a b t))) (λ t. lt→ltb a b (g (ltb→lt c d t)))

pub is_above : (a b : ℕ) (r : Bool) → r ≡ ltb a b → r ≡ true → a < b
is_above a b r e t = ltb→lt a b (subst T (sym (sym e ∙ t)) tt)

pub not_above : (a b : ℕ) (r : Bool) → r ≡ ltb a b → r ≡ false → b ≤ a
not_above a b r e t = nltb→le a b (subst (λ (z : Bool). T (not z)) (sym (sym e ∙ t)) tt)

pub below : (P a b x : ℕ) → a < x → b < P → a * P + b < x * P
below P a b x h l = omega (arith, suc-mul a P, mul-le-mul_right P h)

pub small_root : (n s b : ℕ) → s * s ≤ n → n < b * b → s < b
small_root n s b h k = lt_of_not-le (λ (g : b ≤ s). not-le_of_lt k (le_trans (mul-le-mul g g) h))

pub two_words_law : (hi lo s : ℕ) → hi < 2 ^ 60 → lo < 2 ^ 64 → s * s ≤ hi * 2 ^ 64 + lo → s < 2 ^ 62
two_words_law hi lo s h l k = small_root (hi * 2 ^ 64 + lo) s (2 ^ 62) k (below (2 ^ 64) hi lo (2 ^ 60) h l)
