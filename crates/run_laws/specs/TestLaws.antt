-- What is past a test that refuses, and both outcomes of a test. Assumes nothing.
use Rattle.std.specs.Prelude.{Bool, true, false, not, cond, T}

-- what is past a test that refuses: the test failed, and the rest goes on
pub past : {A : Type 0} (ok : A → Bool) (b : Bool) (x y : A) → (T (ok x) → ⊥) → T (ok (cond b x y)) → T (not b) × T (ok y)
past ok true x y h t = absurd (h t)
past ok false x y h t = (tt, t)

-- both outcomes of a test
pub outcomes : {X A : Type 0} (P : A → Type 0) (b : Bool) (x y : A) → (T b → P x → X) → (T (not b) → P y → X) → P (cond b x y) → X
outcomes P true x y p q t = p tt t
outcomes P false x y p q t = q tt t
