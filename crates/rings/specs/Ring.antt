-- A commutative ring with a test for 0, expressions over numbered variables, and their values. Definitions only.
use Rattle.std.specs.Prelude.{◌≡◌, Bool, List, ℕ, T, get_or}

-- The laws that the solver leans on. Of minus it asks only that it is the product with -1; of the test only that it says true of nothing but 0.
pub record Ring : Type 1 where
  pub Of : Type 0
  pub add : Of → Of → Of
  pub mul : Of → Of → Of
  pub neg : Of → Of
  pub zero : Of
  pub one : Of
  pub add_assoc : (a b c : Of) → add (add a b) c ≡ add a (add b c)
  pub add_comm : (a b : Of) → add a b ≡ add b a
  pub add-zero : (a : Of) → add zero a ≡ a
  pub mul_assoc : (a b c : Of) → mul (mul a b) c ≡ mul a (mul b c)
  pub mul_comm : (a b : Of) → mul a b ≡ mul b a
  pub mul-one : (a : Of) → mul one a ≡ a
  pub dist : (a b c : Of) → mul (add a b) c ≡ add (mul a c) (mul b c)
  pub zero-mul : (a : Of) → mul zero a ≡ zero
  pub neg_one : (a : Of) → mul (neg one) a ≡ neg a
  pub is_zero : Of → Bool
  pub zero_is : (a : Of) → T (is_zero a) → a ≡ zero

infixl 6 ◌⊕◌
infixl 6 ◌⊖◌
infixl 7 ◌⊗◌
-- an expression over numbered variables
pub data Expr (A : Type 0) : Type 0 where
  var : ℕ → Expr A
  con : A → Expr A
  ◌⊕◌ : Expr A → Expr A → Expr A
  ◌⊖◌ : Expr A → Expr A → Expr A
  ◌⊗◌ : Expr A → Expr A → Expr A

module _ (R : Ring) where
  -- its value, where ρ gives the values of the variables
  abbrev pub value : (ℕ → R.Of) → Expr R.Of → R.Of
  value ρ (var v) = ρ v
  value ρ (con c) = c
  value ρ (a ⊕ b) = R.add (value ρ a) (value ρ b)
  value ρ (a ⊖ b) = R.add (value ρ a) (R.neg (value ρ b))
  value ρ (a ⊗ b) = R.mul (value ρ a) (value ρ b)

  -- variable k is number k of a list
  abbrev pub among : List R.Of → ℕ → R.Of
  among xs k = get_or xs k R.zero
