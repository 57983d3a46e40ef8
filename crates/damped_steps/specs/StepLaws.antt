-- The normal equations of the columns in a workspace, solved in their place, give the step of an iteration; the columns stay. Assumes nothing.
use Rattle.std.specs.Prelude.{ℕ, ◌+◌, ◌*◌, ◌-◌, ◌≡◌, Bool, List, ◌++◌, length, take, drop, Float}
use Rattle.std.proofs.Common.{arith, ap, sym, subst, ◌∙◌, length-drop, length-take-le, take_at}
use Rattle.common.specs.Lists.{pasted}
use Rattle.normal_equations.specs.Normal.{gram, normal_matrix}
use Rattle.normal_equations.specs.Rows.{rows}
use Rattle.normal_equations.specs.RowsLaws.{tail_part, rows_take}
use Rattle.normal_equations.specs.Placed.{Equations}
use Rattle.elimination.specs.Elimination.{told, solve_dense, damped_step}
use Rattle.damped_steps.specs.Gram.{GramKept}

-- the part behind the columns, as it is lent, has k rows of k numbers; k is n by another name
pub matrix_fits : (n m k : ℕ) (u : List Float) → k ≡ n → length u ≡ n * m + n * n → length (take (length u - n * m) (drop (n * m) u)) ≡ k * k
matrix_fits n m k u e l = rw e (omega (arith, ap length (tail_part u (n * m)), length-drop (n * m) u))

-- u and g hold the equations of the n columns that begin v; p is what the elimination leaves of the matrix, d its answer
pub step_solved : (n m k : ℕ) (v r : List Float) (lambda : Float) (u g p d : List Float) (b : Bool) → k ≡ n → length u ≡ n * m + n * n → Equations n m v r lambda u g
    → told b d ≡ solve_dense k (rows k k (take (length u - n * m) (drop (n * m) u))) g
    → (take (n * m) (pasted u (n * m) (length u) p) ≡ take (n * m) v) × (told b d ≡ damped_step n m (rows n m (take (n * m) v)) r lambda)
unfolding damped_step
step_solved n m k v r lambda u g p d b e l q h = (
  take_at (take (n * m) u) (p ++ drop (length u - n * m) (drop (n * m) u)) (n * m) (length-take-le (n * m) u (omega arith)) ∙ q.columns,
  subst (λ w. told b d ≡ solve_dense w (rows w w (take (length u - n * m) (drop (n * m) u))) g) e h
      ∙ ap (λ x. solve_dense n (rows n n x) g) (tail_part u (n * m))
      ∙ ap (λ x. solve_dense n x g) q.matrix
      ∙ ap (λ x. solve_dense n (normal_matrix n m (rows n m (take (n * m) v)) lambda) x) q.right,
)

-- p, which begins a, is a copy of the Gram matrix that stands behind the columns in u
pub gram_copied : (n m : ℕ) (j : List (List Float)) (u p rest : List Float) → length p ≡ n * n → p ≡ take (length u - n * m) (drop (n * m) u)
    → rows n n (drop (n * m) u) ≡ gram n m j → GramKept n m j (p ++ rest)
gram_copied n m j u p rest l e q h =
    sym (rows_take n n (p ++ rest) h) ∙ ap (λ x. rows n n x) (take_at p rest (n * n) l ∙ e ∙ tail_part u (n * m)) ∙ q
