-- The lent part is column c and becomes the slopes; what lies before and after it stays.
use Rattle.std.proofs.Common.{ℕ, ◌+◌, ◌*◌, ◌≤◌, ◌≡◌, refl, ap, sym, subst, ◌∙◌, ⊎_elim, List, length, arith}
use Rattle.std.specs.Float.Ieee.{Float}
use Rattle.common.specs.Lists.{pasted}
use Rattle.normal_equations.specs.TabLaws.{length_tab}
use Rattle.normal_equations.specs.Normal.{slopes}
use Rattle.normal_equations.specs.NormalLaws.{part_length}
use Rattle.normal_equations.specs.RowsLaws.{row_same, row_other, length_row_put, at_pasted_before, at_pasted_after}
use Rattle.normal_equations.specs.Placed.{ColumnPut}
use Rattle.normal_equations.proofs.put_column.Goals as goal

-- a part that comes back as column c
column_put : (m c : ℕ) (x v : List Float) → c * m + m ≤ length v → length x ≡ m → ColumnPut m c x v (pasted v (c * m) (c * m + m) x)
column_put m c x v room whole =
    record {
      size = length_row_put m v x c room whole;
      own = row_same m v x c room whole;
      others = row_other m v x c room whole;
      outside = λ i h. ⊎_elim (λ b. at_pasted_before v x (c * m) (c * m + m) i b (omega arith)) (λ b. at_pasted_after v x (c * m) (c * m + m) i (omega arith) room (omega arith) b) h;
    }

pub returns : goal.returns
unfolding slopes
returns c =
    let a = c.args in
    let l = part_length a.m a.v.now a.c (a.c * a.m) (a.c * a.m + a.m) refl refl (omega arith) in
    let put = c.put_slopes.ensures ∙ ap (λ k. slopes k a.rp.now a.r0.now) l in
    subst (λ x. ColumnPut a.m a.c (slopes a.m a.rp.now a.r0.now) a.v.now (pasted a.v.now (a.c * a.m) (a.c * a.m + a.m) x)) (sym put) (column_put a.m a.c (slopes a.m a.rp.now a.r0.now) a.v.now (omega arith) (length_tab a.m _))
