-- The columns and their Gram matrix give the normal equations. Assumes nothing.
use Rattle.std.specs.Prelude.{ℕ, ◌*◌, take, drop, ◌≡◌, List, Float}
use Rattle.std.proofs.Common.{ap, ◌∙◌}
use Rattle.normal_equations.specs.NormalLaws.{normal_damped}
use Rattle.normal_equations.specs.Normal.{gram, damped, right_side}
use Rattle.normal_equations.specs.Inner.{Completed}
use Rattle.normal_equations.specs.Placed.{Equations}
use Rattle.normal_equations.specs.Rows.{rows}

-- u has the columns that begin v, and behind them their Gram matrix: damped, it is the matrix of the normal equations of v
pub gram_equations : (n m : ℕ) (v u r : List Float) (lambda : Float) (w g : List Float) → take (n * m) u ≡ take (n * m) v
    → rows n n (drop (n * m) u) ≡ gram n m (rows n m (take (n * m) v)) → Completed n m u r lambda w g → Equations n m v r lambda w g
gram_equations n m v u r lambda w g e h t =
    record {
      columns = t.columns ∙ e;
      matrix = t.matrix ∙ ap (λ a. damped n lambda a) h ∙ normal_damped n m (rows n m (take (n * m) v)) lambda;
      right = t.right ∙ ap (λ j. right_side n m (rows n m j) r) e;
    }
