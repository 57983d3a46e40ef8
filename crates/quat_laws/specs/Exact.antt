-- The product rule over the whole numbers: it is associative, and squared lengths multiply. Assumes nothing.
use Rattle.std.specs.Prelude.{◌≡◌, refl, List, [], ◌∷◌, ℕ, ◌+◌, ℤ, ◌+ℤ◌, ◌-ℤ◌, ◌*ℤ◌}
use Rattle.rings.specs.Ring.{Expr, var, ◌⊕◌, ◌⊖◌, ◌⊗◌}
use Rattle.rings.specs.Integers.{ringℤ}
use Rattle.quat_laws.specs.Product.{Quaternion, quaternion, hamilton, squared_length}

-- the exact product and the exact squared length
abbrev pub product : Quaternion ℤ → Quaternion ℤ → Quaternion ℤ
product = hamilton ◌+ℤ◌ ◌-ℤ◌ ◌*ℤ◌

abbrev pub squared : Quaternion ℤ → ℤ
squared = squared_length ◌+ℤ◌ ◌*ℤ◌

-- the same over expressions: the rule itself writes the polynomials
abbrev product_e : Quaternion (Expr ℤ) → Quaternion (Expr ℤ) → Quaternion (Expr ℤ)
product_e = hamilton ◌⊕◌ ◌⊖◌ ◌⊗◌

abbrev squared_e : Quaternion (Expr ℤ) → Expr ℤ
squared_e = squared_length ◌⊕◌ ◌⊗◌

-- four variables, from number k
abbrev four : ℕ → Quaternion (Expr ℤ)
four k = quaternion (var k) (var (k + 1)) (var (k + 2)) (var (k + 3))

by_parts : {A : Type 0} {a b : Quaternion A} → a.w ≡ b.w → a.x ≡ b.x → a.y ≡ b.y → a.z ≡ b.z → a ≡ b
by_parts p q r s = λ i. record { w = p i; x = q i; y = r i; z = s i }

-- the parts of a quaternion before others
abbrev then : Quaternion ℤ → List ℤ → List ℤ
then q xs = q.w ∷ q.x ∷ q.y ∷ q.z ∷ xs

-- THE PRODUCT IS ASSOCIATIVE
pub product_assoc : (a b c : Quaternion ℤ) → product (product a b) c ≡ product a (product b c)
product_assoc a b c =
    let xs = then a (then b (then c [])) in
    let l = product_e (product_e (four 0) (four 4)) (four 8) in
    let r = product_e (four 0) (product_e (four 4) (four 8)) in
    by_parts (ringℤ xs l.w r.w refl) (ringℤ xs l.x r.x refl) (ringℤ xs l.y r.y refl) (ringℤ xs l.z r.z refl)

-- SQUARED LENGTHS MULTIPLY
pub lengths_multiply : (a b : Quaternion ℤ) → squared (product a b) ≡ squared a *ℤ squared b
lengths_multiply a b = ringℤ (then a (then b [])) (squared_e (product_e (four 0) (four 4))) (squared_e (four 0) ⊗ squared_e (four 4)) refl
