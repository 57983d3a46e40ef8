-- Equations of a commutative ring, by computing: two expressions with the same normal form have the same value at all values of their variables (`solve`). Assumes nothing.
use Rattle.std.specs.Prelude.{◌≡◌, refl, Bool, true, false, not, cond, ◌&&◌, List, [], ◌∷◌, ℕ, T, ltb, eqb}
use Rattle.std.proofs.Common.{sym, ap, ◌∙◌, eqb→eq}
use Rattle.rings.specs.Ring.{Ring, Expr, var, con, ◌⊕◌, ◌⊖◌, ◌⊗◌, value}
use Rattle.rings.specs.Polynomials.{mul_var, mul_monomial, same, before, Term, cons, add_term, add_all, mul_term, mul_all, neg_all, normal}

-- a test's two outcomes, at what the test picks
pick : {X : Type 0} (P : X → Type 0) (b : Bool) {x y : X} → (T b → P x) → (T (not b) → P y) → P (cond b x y)
pick P true p q = p tt
pick P false p q = q tt

and_both : (a b : Bool) → T (a && b) → T a × T b
and_both true b t = (tt, t)
and_both false b t = absurd t

same_is : (m n : List ℕ) → T (same m n) → m ≡ n
same_is [] [] t = refl
same_is [] (w ∷ n) t = absurd t
same_is (v ∷ m) [] t = absurd t
same_is (v ∷ m) (w ∷ n) t = let h = and_both (eqb v w) (same m n) t in rw (eqb→eq v w h.0, same_is m n h.1)

module _ (R : Ring) where
  -- ---- what the ring's laws give
  add_none : (a : R.Of) → R.add a R.zero ≡ a
  add_none a = R.add_comm a R.zero ∙ R.add-zero a

  add_swap : (a b c : R.Of) → R.add a (R.add b c) ≡ R.add b (R.add a c)
  add_swap a b c = sym (R.add_assoc a b c) ∙ ap (λ x. R.add x c) (R.add_comm a b) ∙ R.add_assoc b a c

  mul_swap : (a b c : R.Of) → R.mul a (R.mul b c) ≡ R.mul b (R.mul a c)
  mul_swap a b c = sym (R.mul_assoc a b c) ∙ ap (λ x. R.mul x c) (R.mul_comm a b) ∙ R.mul_assoc b a c

  -- (a b) (c d) is (a c) (b d)
  mul_pairs : (a b c d : R.Of) → R.mul (R.mul a b) (R.mul c d) ≡ R.mul (R.mul a c) (R.mul b d)
  mul_pairs a b c d = R.mul_assoc a b (R.mul c d) ∙ ap (R.mul a) (mul_swap b c d) ∙ sym (R.mul_assoc a c (R.mul b d))

  dist_left : (a b c : R.Of) → R.mul a (R.add b c) ≡ R.add (R.mul a b) (R.mul a c)
  dist_left a b c = R.mul_comm a (R.add b c) ∙ R.dist b c a ∙ ap (λ x. R.add x (R.mul c a)) (R.mul_comm b a) ∙ ap (R.add (R.mul a b)) (R.mul_comm c a)

  module _ (ρ : ℕ → R.Of) where
    -- ---- the values of a monomial, of a term and of a polynomial
    abbrev prod : List ℕ → R.Of
    prod [] = R.one
    prod (v ∷ m) = R.mul (ρ v) (prod m)

    abbrev term : Term R → R.Of
    term t = R.mul t.0 (prod t.1)

    abbrev total : List (Term R) → R.Of
    total [] = R.zero
    total (t ∷ p) = R.add (term t) (total p)

    -- ---- each step of the normal form has the value that it should
    var_is : (v : ℕ) (m : List ℕ) → prod (mul_var v m) ≡ R.mul (ρ v) (prod m)
    var_is v [] = refl
    var_is v (w ∷ m) =
        pick (λ x. prod x ≡ R.mul (ρ v) (R.mul (ρ w) (prod m))) (ltb w v)
        (λ h. ap (R.mul (ρ w)) (var_is v m) ∙ mul_swap (ρ w) (ρ v) (prod m)) (λ h. refl)

    monomial_is : (m n : List ℕ) → prod (mul_monomial m n) ≡ R.mul (prod m) (prod n)
    monomial_is [] n = sym (R.mul-one (prod n))
    monomial_is (v ∷ m) n = var_is v (mul_monomial m n) ∙ ap (R.mul (ρ v)) (monomial_is m n) ∙ sym (R.mul_assoc (ρ v) (prod m) (prod n))

    cons_is : (c : R.Of) (m : List ℕ) (p : List (Term R)) → total (cons R c m p) ≡ R.add (R.mul c (prod m)) (total p)
    cons_is c m p =
        pick (λ x. total x ≡ R.add (R.mul c (prod m)) (total p)) (R.is_zero c)
        (λ h. sym (ap (λ x. R.add (R.mul x (prod m)) (total p)) (R.zero_is c h) ∙ ap (λ x. R.add x (total p)) (R.zero-mul (prod m)) ∙ R.add-zero (total p)))
        (λ h. refl)

    add_term_is : (t : Term R) (p : List (Term R)) → total (add_term R t p) ≡ R.add (term t) (total p)
    add_term_is t [] = refl
    add_term_is t (u ∷ p) =
        pick (λ x. total x ≡ R.add (term t) (R.add (term u) (total p))) (same t.1 u.1)
        (λ h. cons_is (R.add t.0 u.0) u.1 p ∙ ap (λ x. R.add x (total p)) (R.dist t.0 u.0 (prod u.1))
        ∙ ap (λ x. R.add (R.add (R.mul t.0 (prod x)) (term u)) (total p)) (sym (same_is t.1 u.1 h)) ∙ R.add_assoc (term t) (term u) (total p))
        (λ h. pick (λ x. total x ≡ R.add (term t) (R.add (term u) (total p))) (before t.1 u.1)
        (λ k. refl)
        (λ k. ap (R.add (term u)) (add_term_is t p) ∙ add_swap (term u) (term t) (total p)))

    add_is : (p q : List (Term R)) → total (add_all R p q) ≡ R.add (total p) (total q)
    add_is [] q = sym (R.add-zero (total q))
    add_is (t ∷ p) q = add_term_is t (add_all R p q) ∙ ap (R.add (term t)) (add_is p q) ∙ sym (R.add_assoc (term t) (total p) (total q))

    mul_term_is : (t : Term R) (q r : List (Term R)) → total (mul_term R t q r) ≡ R.add (R.mul (term t) (total q)) (total r)
    mul_term_is t [] r = sym (ap (λ x. R.add x (total r)) (R.mul_comm (term t) R.zero ∙ R.zero-mul (term t)) ∙ R.add-zero (total r))
    mul_term_is t (u ∷ q) r =
        add_term_is (R.mul t.0 u.0, mul_monomial t.1 u.1) (mul_term R t q r)
        ∙ ap (λ x. R.add x (total (mul_term R t q r))) (ap (R.mul (R.mul t.0 u.0)) (monomial_is t.1 u.1) ∙ mul_pairs t.0 u.0 (prod t.1) (prod u.1))
        ∙ ap (R.add (R.mul (term t) (term u))) (mul_term_is t q r)
        ∙ sym (R.add_assoc (R.mul (term t) (term u)) (R.mul (term t) (total q)) (total r))
        ∙ ap (λ x. R.add x (total r)) (sym (dist_left (term t) (term u) (total q)))

    mul_is : (p q : List (Term R)) → total (mul_all R p q) ≡ R.mul (total p) (total q)
    mul_is [] q = sym (R.zero-mul (total q))
    mul_is (t ∷ p) q =
        mul_term_is t q (mul_all R p q) ∙ ap (R.add (R.mul (term t) (total q))) (mul_is p q) ∙ sym (R.dist (term t) (total p) (total q))

    neg_is : (p : List (Term R)) → total (neg_all R p) ≡ R.neg (total p)
    neg_is p =
        mul_term_is (R.neg R.one, []) p [] ∙ add_none (R.mul (R.mul (R.neg R.one) R.one) (total p))
        ∙ ap (λ x. R.mul x (total p)) (R.mul_comm (R.neg R.one) R.one ∙ R.mul-one (R.neg R.one)) ∙ R.neg_one (total p)

    -- a normal form has its expression's value
    normal_is : (e : Expr R.Of) → total (normal R e) ≡ value R ρ e
    normal_is (var v) = add_none (R.mul R.one (R.mul (ρ v) R.one)) ∙ R.mul-one (R.mul (ρ v) R.one) ∙ R.mul_comm (ρ v) R.one ∙ R.mul-one (ρ v)
    normal_is (con c) = cons_is c [] [] ∙ add_none (R.mul c R.one) ∙ R.mul_comm c R.one ∙ R.mul-one c
    normal_is (a ⊕ b) = add_is (normal R a) (normal R b) ∙ ap (λ x. R.add x (total (normal R b))) (normal_is a) ∙ ap (R.add (value R ρ a)) (normal_is b)
    normal_is (a ⊖ b) =
        add_is (normal R a) (neg_all R (normal R b)) ∙ ap (λ x. R.add x (total (neg_all R (normal R b)))) (normal_is a)
        ∙ ap (R.add (value R ρ a)) (neg_is (normal R b) ∙ ap R.neg (normal_is b))
    normal_is (a ⊗ b) = mul_is (normal R a) (normal R b) ∙ ap (λ x. R.mul x (total (normal R b))) (normal_is a) ∙ ap (R.mul (value R ρ a)) (normal_is b)

    -- THE SOLVER: with one normal form the values are equal; at given expressions `refl` shows the first
    pub solve : (a b : Expr R.Of) → normal R a ≡ normal R b → value R ρ a ≡ value R ρ b
    solve a b h = sym (normal_is a) ∙ ap total h ∙ normal_is b
