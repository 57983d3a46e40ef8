-- What a loop that damps a diagonal has done so far. Assumes nothing.
use Rattle.std.specs.Prelude.{ℕ, ◌+◌, ◌*◌, ◌<◌, ◌≤◌, ◌≡◌, refl, Bool, List, length, set, Float}
use Rattle.std.proofs.Common.{arith, ap, sym, subst, ◌∙◌, ⊎_elim, get_or-set_same, get_or-set_other, below_more}
use Rattle.std.proofs.Math.Bool.{true, false, cond}
use Rattle.std.proofs.Math.Dec.{eqb}
use Rattle.std.specs.Float.Ieee.{nan, binary64, add}
use borrow.Author.Tests.{eqb-true, eqb-false}
use Rattle.common.specs.IterLaws.{row_end}
use Rattle.common.specs.Lists.{at}
use Rattle.normal_equations.specs.TabLaws.{tab_same, tab_of}
use Rattle.normal_equations.specs.Normal.{cell, damped}
use Rattle.normal_equations.specs.Rows.{row, rows}
use Rattle.normal_equations.specs.RowsLaws.{length_row, at_row, cell_rows, apart}

-- of n rows of n numbers in v the diagonal is damped in u up to row k, and all else is as it was
pub record DampedTo (n : ℕ) (lambda : Float) (k : ℕ) (v u : List Float) : Type 0 where
  pub done : (c : ℕ) → c < k → at u (c * n + c) ≡ add binary64 (at v (c * n + c)) lambda
  pub left : (c : ℕ) → k ≤ c → c < n → at u (c * n + c) ≡ at v (c * n + c)
  pub beside : (c d : ℕ) → c < n → d < n → (c ≡ d → ⊥) → at u (c * n + d) ≡ at v (c * n + d)

module _ (n : ℕ) (lambda : Float) where
  pub damped_none : (v : List Float) → DampedTo n lambda 0 v v
  damped_none v = record { done = λ c h. absurd (omega arith); left = λ c h l. refl; beside = λ c d h l e. refl }

  -- a cell of another row, or beside the diagonal, is another place
  other : (k c d : ℕ) → k < n → d < n → (c ≡ k → ⊥) → c * n + d ≡ k * n + k → ⊥
  other k c d hk hd ne e = ⊎_elim (λ h. omega arith) (λ h. omega arith) (apart k c n ne)

  aside : (k d : ℕ) → (d ≡ k → ⊥) → k * n + d ≡ k * n + k → ⊥
  aside k d ne e = ne (omega arith)

  -- one row more
  pub damped_more : (k : ℕ) (v u : List Float) → k < n → k * n + k < length u → DampedTo n lambda k v u
      → DampedTo n lambda (k + 1) v (set u (k * n + k) (add binary64 (at u (k * n + k)) lambda))
  damped_more k v u h l t =
      record {
        done = λ c b. below_more (λ x. at w (x * n + x) ≡ add binary64 (at v (x * n + x)) lambda) k
            (λ x g. get_or-set_other u (k * n + k) (x * n + x) y nan (other k x x h (omega arith) (λ e. omega arith)) ∙ t.done x g)
            (get_or-set_same u (k * n + k) y nan l ∙ ap (λ x. add binary64 x lambda) (t.left k (omega arith) h))
            c b;
        left = λ c b g. get_or-set_other u (k * n + k) (c * n + c) y nan (other k c c h g (λ e. omega arith)) ∙ t.left c (omega arith) g;
        beside = λ c d b g ne. get_or-set_other u (k * n + k) (c * n + d) y nan (by c d g ne (eqb c k) refl) ∙ t.beside c d b g ne;
      }
    where
      y : Float
      y = add binary64 (at u (k * n + k)) lambda

      w : List Float
      w = set u (k * n + k) y

      by : (c d : ℕ) → d < n → (c ≡ d → ⊥) → (b : Bool) → eqb c k ≡ b → c * n + d ≡ k * n + k → ⊥
      by c d g ne true e = let q : c ≡ k = eqb-true c k e in subst (λ x. x * n + d ≡ k * n + k → ⊥) (sym q) (aside k d (λ z. ne (q ∙ sym z)))
      by c d g ne false e = other k c d h g (eqb-false c k e)

  -- all of them
  pub damped_all : (v u : List Float) → length u ≡ n * n → DampedTo n lambda n v u → rows n n u ≡ damped n lambda (rows n n v)
  unfolding damped
  damped_all v u l t =
      tab_same n _ _ (λ c h. tab_of n _ nan (row n u c) (length_row n u c (omega (arith, row_end c n n h)))
      (λ d g. at_row n u c d g ∙ by c d h g (eqb c d) refl))
    where
      by : (c d : ℕ) → c < n → d < n → (b : Bool) → eqb c d ≡ b → at u (c * n + d) ≡ cond (eqb c d) (add binary64 (cell (rows n n v) c d) lambda) (cell (rows n n v) c d)
      by c d h g true e =
          let q : c ≡ d = eqb-true c d e in
          rw (e, cell_rows n n v c d h g) (subst (λ x. at u (c * n + x) ≡ add binary64 (at v (c * n + x)) lambda) q (t.done c h))
      by c d h g false e = rw (e, cell_rows n n v c d h g) (t.beside c d h g (eqb-false c d e))
