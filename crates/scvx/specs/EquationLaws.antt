-- The chain from the search's definition to the normal equations that the code forms: they are the same, bit for bit. Assumes nothing.
use Rattle.std.specs.Prelude.{ℕ, ◌*◌, ◌<◌, ◌≡◌, cond, List, eqb, take, drop, Float}
use Rattle.std.proofs.Common.{ap, sym, ◌∙◌}
use Rattle.std.specs.Float.{nan, binary64}
use Rattle.std.specs.Float.Ieee.{add, neg}
use Rattle.common.specs.Lists.{at}
use Rattle.problem.specs.declared.CheckedProblem.{CheckedProblem}
use Rattle.residuals.specs.Residuals.{residuals_of}
use Rattle.normal_equations.specs.TabLaws.{get_d_tab}
use Rattle.normal_equations.specs.Normal as Normal
use Rattle.normal_equations.specs.Normal.{line, cell, slopes, dot}
use Rattle.normal_equations.specs.NormalLaws.{normal_cell, right_sums}
use Rattle.normal_equations.specs.Rows.{rows}
use Rattle.normal_equations.specs.Placed.{Equations}
use Rattle.kept_rows.specs.Kept.{kept, Gathered, Zeros}
use Rattle.kept_rows.specs.KeptLaws.{matrix_kept, right_kept}
use Rattle.scvx.specs.Search.{numbers, width, perturb, Formed, jacobian, normal_matrix, right_side}
use Rattle.scvx.specs.ProgressInner.{columns_in, width_laid}
use Rattle.scvx.specs.ColumnLaws.{jacobian_each}

-- a, by rows, and g are the normal equations that the search names at the decision z, whose residuals are r0
pub record SearchEquations (p : CheckedProblem) (z r0 : List Float) (lambda : Float) (a : List (List Float)) (g : List Float) : Type 0 where
  -- the columns of the Jacobian, each made by its own run
  pub columns : List (List Float)
  pub formed : jacobian p z r0 ≡ Formed columns
  pub each : (c : ℕ) → c < numbers p → line columns c ≡ slopes (width p) (residuals_of p (perturb p z c)).r r0
  -- the equations of these columns
  pub matrix : a ≡ normal_matrix p columns lambda
  pub right : g ≡ right_side p columns r0
  -- number by number: a sum over the residual rows in order, and after it the damping factor on the diagonal, or the sign turned
  pub cells : (c d : ℕ) → c < numbers p → d < numbers p
      → cell a c d ≡ cond (eqb c d) (add binary64 (dot (width p) (line columns c) (line columns d)) lambda) (dot (width p) (line columns c) (line columns d))
  pub sides : (c : ℕ) → c < numbers p → at g c ≡ neg (dot (width p) (line columns c) r0)

-- THE CHAIN: with the kept rows of the columns of `jacobian p z r0` in the front of the workspace v, and those of the residuals r0 in x, the matrix and the right side that
-- `normal_equations::equations` and `kept_equations` form are those that the search names
pub formed_equations_are_the_searchs : (p : CheckedProblem) (z r0 x v u g : List Float) (lambda : Float) {n m : ℕ} → n ≡ numbers p → m ≡ width p
    → jacobian p z r0 ≡ Formed (columns_in n m v) → Gathered m r0 x → Zeros m r0 → Equations n (kept m) v x lambda u g
    → SearchEquations p z r0 lambda (rows n n (drop (n * kept m) u)) g
formed_equations_are_the_searchs p z r0 x v u g lambda {n} {m} en em h k o q =
    record {
      columns = j;
      formed = h;
      each = (jacobian_each p z r0 h).own;
      matrix = same;
      right = sides;
      cells = λ c d hc hd. ap (λ x. cell x c d) same ∙ normal_cell (numbers p) (width p) j lambda c d hc hd;
      sides = λ c hc. ap (λ x. at x c) (sides ∙ right_sums (numbers p) (width p) j r0) ∙ get_d_tab (numbers p) (λ k. neg (dot (width p) (line j k) r0)) nan c hc;
    }
  where
    j : List (List Float)
    j = columns_in n m v

    same : rows n n (drop (n * kept m) u) ≡ normal_matrix p j lambda
    same = q.matrix ∙ sym (matrix_kept n m (take (n * kept m) v) (width_laid p em) lambda) ∙ ap (λ k. Normal.normal_matrix k m j lambda) en ∙ ap (λ k. Normal.normal_matrix (numbers p) k j lambda) em

    sides : g ≡ right_side p j r0
    sides = q.right ∙ sym (right_kept n m (take (n * kept m) v) (width_laid p em) r0 x k o) ∙ ap (λ k. Normal.right_side k m j r0) en ∙ ap (λ k. Normal.right_side (numbers p) k j r0) em
