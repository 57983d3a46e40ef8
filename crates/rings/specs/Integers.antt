-- The whole numbers are a commutative ring: what the kit's account of them lacks, multiplication over sums and of three factors, and the solver there. Assumes nothing.
use Rattle.std.specs.Prelude.{◌≡◌, List, Bool, false, zero, suc, T, eqb, ℤ, pos, negsuc, neg_ℤ, ◌+ℤ◌, ◌-ℤ◌, ◌*ℤ◌}
use Rattle.std.proofs.Common.{sym, ap, ◌∙◌, eqb→eq}
use Rattle.std.proofs.Math.IntN.{suc_ℤ, pred_ℤ, one, +ℤ_idl, +ℤ_assoc, +ℤ_comm, +ℤ_invl, +ℤ-neg_ℤ_cancel, suc_ℤ-+ℤ, pred_ℤ-+ℤ, suc_ℤ-*ℤ, pred_ℤ-*ℤ, *ℤ_comm, *ℤ-one, zero-*ℤ}
use Rattle.rings.specs.Ring.{Ring, Expr, value, among}
use Rattle.rings.specs.Polynomials.{normal}
use Rattle.rings.specs.Solver.{solve}

-- what holds of 0 and goes over to the next and to the last number holds of all
from_zero : (P : ℤ → Type 0) → P (pos 0) → ((m : ℤ) → P m → P (suc_ℤ m)) → ((m : ℤ) → P m → P (pred_ℤ m)) → (m : ℤ) → P m
from_zero P z s p (pos zero) = z
from_zero P z s p (pos (suc n)) = s (pos n) (from_zero P z s p (pos n))
from_zero P z s p (negsuc zero) = p (pos 0) z
from_zero P z s p (negsuc (suc n)) = p (negsuc n) (from_zero P z s p (negsuc n))

-- the last two of three summands change places
last_two : (a b c : ℤ) → a +ℤ b +ℤ c ≡ a +ℤ c +ℤ b
last_two a b c = +ℤ_assoc a b c ∙ ap (λ x. a +ℤ x) (+ℤ_comm b c) ∙ sym (+ℤ_assoc a c b)

pub *ℤ_dist : (a b c : ℤ) → (a +ℤ b) *ℤ c ≡ a *ℤ c +ℤ b *ℤ c
*ℤ_dist a b c =
    from_zero (λ m. (m +ℤ b) *ℤ c ≡ m *ℤ c +ℤ b *ℤ c)
    (ap (λ x. x *ℤ c) (+ℤ_idl b) ∙ sym (ap (λ x. x +ℤ b *ℤ c) (zero-*ℤ c) ∙ +ℤ_idl (b *ℤ c)))
    (λ m h. ap (λ x. x *ℤ c) (suc_ℤ-+ℤ m b) ∙ suc_ℤ-*ℤ (m +ℤ b) c ∙ ap (λ x. x +ℤ c) h ∙ last_two (m *ℤ c) (b *ℤ c) c ∙ ap (λ x. x +ℤ b *ℤ c) (sym (suc_ℤ-*ℤ m c)))
    (λ m h. ap (λ x. x *ℤ c) (pred_ℤ-+ℤ m b) ∙ pred_ℤ-*ℤ (m +ℤ b) c ∙ ap (λ x. x -ℤ c) h ∙ last_two (m *ℤ c) (b *ℤ c) (neg_ℤ c) ∙ ap (λ x. x +ℤ b *ℤ c) (sym (pred_ℤ-*ℤ m c)))
    a

-- minus goes out of a product
neg_mul : (a c : ℤ) → neg_ℤ a *ℤ c ≡ neg_ℤ (a *ℤ c)
neg_mul a c =
    sym (+ℤ-neg_ℤ_cancel (neg_ℤ a *ℤ c) (a *ℤ c))
    ∙ ap (λ x. x -ℤ a *ℤ c) (sym (*ℤ_dist (neg_ℤ a) a c) ∙ ap (λ x. x *ℤ c) (+ℤ_invl a) ∙ zero-*ℤ c)
    ∙ +ℤ_idl (neg_ℤ (a *ℤ c))

pub *ℤ_assoc : (a b c : ℤ) → a *ℤ b *ℤ c ≡ a *ℤ (b *ℤ c)
*ℤ_assoc a b c =
    from_zero (λ m. m *ℤ b *ℤ c ≡ m *ℤ (b *ℤ c))
    (ap (λ x. x *ℤ c) (zero-*ℤ b) ∙ zero-*ℤ c ∙ sym (zero-*ℤ (b *ℤ c)))
    (λ m h. ap (λ x. x *ℤ c) (suc_ℤ-*ℤ m b) ∙ *ℤ_dist (m *ℤ b) b c ∙ ap (λ x. x +ℤ b *ℤ c) h ∙ sym (suc_ℤ-*ℤ m (b *ℤ c)))
    (λ m h. ap (λ x. x *ℤ c) (pred_ℤ-*ℤ m b) ∙ *ℤ_dist (m *ℤ b) (neg_ℤ b) c ∙ ap (λ x. m *ℤ b *ℤ c +ℤ x) (neg_mul b c) ∙ ap (λ x. x -ℤ b *ℤ c) h ∙ sym (pred_ℤ-*ℤ m (b *ℤ c)))
    a

pub one_*ℤ : (a : ℤ) → pos 1 *ℤ a ≡ a
unfolding one
one_*ℤ a = *ℤ_comm one a ∙ *ℤ-one a

pub less_*ℤ : (a : ℤ) → negsuc 0 *ℤ a ≡ neg_ℤ a
less_*ℤ a = neg_mul (pos 1) a ∙ ap neg_ℤ (one_*ℤ a)

-- is a number 0
abbrev pub is_zero : ℤ → Bool
is_zero (pos n) = eqb n 0
is_zero (negsuc n) = false

pub zero_is : (a : ℤ) → T (is_zero a) → a ≡ pos 0
zero_is (pos n) t = ap pos (eqb→eq n 0 t)
zero_is (negsuc n) t = absurd t

-- THE RING OF THE WHOLE NUMBERS
abbrev pub integers : Ring
integers = record {
  Of = ℤ;
  add = ◌+ℤ◌;
  mul = ◌*ℤ◌;
  neg = neg_ℤ;
  zero = pos 0;
  one = pos 1;
  add_assoc = +ℤ_assoc;
  add_comm = +ℤ_comm;
  add-zero = +ℤ_idl;
  mul_assoc = *ℤ_assoc;
  mul_comm = *ℤ_comm;
  mul-one = one_*ℤ;
  dist = *ℤ_dist;
  zero-mul = zero-*ℤ;
  neg_one = less_*ℤ;
  is_zero = is_zero;
  zero_is = zero_is;
}

-- THE SOLVER THERE, with the variables' values in a list: `ringℤ (x ∷ y ∷ []) a b refl`
pub ringℤ : (xs : List ℤ) (a b : Expr ℤ) → normal integers a ≡ normal integers b → value integers (among integers xs) a ≡ value integers (among integers xs) b
ringℤ xs = solve integers (among integers xs)
