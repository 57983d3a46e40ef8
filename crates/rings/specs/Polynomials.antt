-- The normal form of an expression: a polynomial, as a list of terms in the order of their monomials. A term has a coefficient that is not 0 and a monomial;
-- a monomial is a list of variables in order, each as often as it is a factor. Definitions only: the solver needs no proof that the lists are in order.
use Rattle.std.specs.Prelude.{Bool, true, false, cond, ◌&&◌, List, [], ◌∷◌, ℕ, ltb, eqb}
use Rattle.rings.specs.Ring.{Ring, Expr, var, con, ◌⊕◌, ◌⊖◌, ◌⊗◌}

-- ---- monomials

-- times a variable
abbrev pub mul_var : ℕ → List ℕ → List ℕ
mul_var v [] = v ∷ []
mul_var v (w ∷ m) = cond (ltb w v) (w ∷ mul_var v m) (v ∷ w ∷ m)

abbrev pub mul_monomial : List ℕ → List ℕ → List ℕ
mul_monomial [] n = n
mul_monomial (v ∷ m) n = mul_var v (mul_monomial m n)

abbrev pub same : List ℕ → List ℕ → Bool
same [] [] = true
same [] (w ∷ n) = false
same (v ∷ m) [] = false
same (v ∷ m) (w ∷ n) = eqb v w && same m n

abbrev pub before : List ℕ → List ℕ → Bool
before [] n = true
before (v ∷ m) [] = false
before (v ∷ m) (w ∷ n) = cond (eqb v w) (before m n) (ltb v w)

-- ---- polynomials
module _ (R : Ring) where
  -- a coefficient and a monomial
  abbrev pub Term : Type 0
  Term = R.Of × List ℕ

  -- a term put first, unless its coefficient is 0
  abbrev pub cons : R.Of → List ℕ → List Term → List Term
  cons c m p = cond (R.is_zero c) p ((c, m) ∷ p)

  abbrev pub add_term : Term → List Term → List Term
  add_term t [] = t ∷ []
  add_term t (u ∷ p) =
      cond (same t.1 u.1) (cons (R.add t.0 u.0) u.1 p)
      (cond (before t.1 u.1) (t ∷ u ∷ p) (u ∷ add_term t p))

  abbrev pub add_all : List Term → List Term → List Term
  add_all [] q = q
  add_all (t ∷ p) q = add_term t (add_all p q)

  -- t times q, added to r
  abbrev pub mul_term : Term → List Term → List Term → List Term
  mul_term t [] r = r
  mul_term t (u ∷ q) r = add_term (R.mul t.0 u.0, mul_monomial t.1 u.1) (mul_term t q r)

  abbrev pub mul_all : List Term → List Term → List Term
  mul_all [] q = []
  mul_all (t ∷ p) q = mul_term t q (mul_all p q)

  abbrev pub neg_all : List Term → List Term
  neg_all p = mul_term (R.neg R.one, []) p []

  -- THE NORMAL FORM
  abbrev pub normal : Expr R.Of → List Term
  normal (var v) = (R.one, v ∷ []) ∷ []
  normal (con c) = cons c [] []
  normal (a ⊕ b) = add_all (normal a) (normal b)
  normal (a ⊖ b) = add_all (normal a) (neg_all (normal b))
  normal (a ⊗ b) = mul_all (normal a) (normal b)
