-- The rows below c are right, and by them the next ones are (`row_right`).
use Rattle.std.proofs.Common.{ℕ, ◌+◌, ◌*◌, ◌-◌, ◌<◌, ◌≡◌, List, take, drop, sym, subst, ◌∙◌, arith, length-take-le}
use Rattle.std.specs.Float.Ieee.{Float}
use Rattle.normal_equations.specs.Inner as Inner
use Rattle.normal_equations.specs.Normal as Normal
use Rattle.normal_equations.specs.NormalLaws.{row_right, gram_rows}
use Rattle.normal_equations.specs.Rows as R
use Rattle.normal_equations.specs.TabLaws.{tab_same}
use Rattle.normal_equations.specs.FilledInner.{filled_more}
use Rattle.normal_equations.proofs.gram_matrix.Invariants.{Right}
use Rattle.normal_equations.proofs.gram_matrix.Goals as goal

more : (n m : ℕ) (v₀ v u : List Float) (c : ℕ) → c < n → take (n * m) v ≡ take (n * m) v₀ → Right n m v₀ c v → Inner.RowFilled n m v c u
    → Right n m v₀ (c + 1) u
more n m v₀ v u c h e f r =
    filled_more _ 0 c _ _ _ (omega arith) f (r.matrix.own ∙ row_right n m v (take (n * m) v₀) c h e (λ x l. f.done x (omega arith) l)) r.matrix.others

all : (n m : ℕ) (v₀ v : List Float) (c : ℕ) → c ≡ n → Right n m v₀ c v
    → R.rows n n (drop (n * m) v) ≡ Normal.gram n m (R.rows n m (take (n * m) v₀))
all n m v₀ v c e f = tab_same n _ _ (λ x h. f.done x (omega arith) (omega arith)) ∙ sym (gram_rows n m (take (n * m) v₀))

pub loop-p-preserved : goal.loop-p-preserved
loop-p-preserved c =
    let a = c.args in
    let l = c.loop-p in
    let n : ℕ = a.n in
    let v₀ : List Float = a.v.now in
    let u : List Float = c.matrix_rows.new.v in
    let f : Inner.RowsFilled n a.m l.v (2 * l.p) u = subst (λ k. Inner.RowsFilled k a.m l.v (2 * l.p) u) (length-take-le n l.row (omega arith)) c.matrix_rows.ensures in
    let two : 2 * l.p + 1 + 1 ≡ 2 * (l.p + 1) = omega arith in
    let same : take (n * a.m) f.middle ≡ take (n * a.m) v₀ = f.first.columns ∙ l.invariant.0 in (
      f.second.columns ∙ same,
      subst (λ k. Right n a.m v₀ k u) two
          (more n a.m v₀ f.middle u (2 * l.p + 1) (omega arith) same (more n a.m v₀ l.v f.middle (2 * l.p) (omega arith) l.invariant.0 l.invariant.1 f.first) f.second),
    )

pub returns-then-n-eq1 : goal.returns-then-n-eq1
returns-then-n-eq1 c =
    let a = c.args in
    let l = c.loop-p in
    let n : ℕ = a.n in
    let u : List Float = c.matrix_row.new.v in
    let f : Inner.RowFilled n a.m l.v (n - 1) u = subst (λ k. Inner.RowFilled k a.m l.v (n - 1) u) (length-take-le n l.row (omega arith)) c.matrix_row.ensures in
    let e : 2 * l.p ≡ n - 1 = omega arith in
    (f.columns ∙ l.invariant.0, all n a.m a.v.now u (n - 1 + 1) (omega arith) (more n a.m a.v.now l.v u (n - 1) (omega arith) l.invariant.0 (subst (λ k. Right n a.m a.v.now k l.v) e l.invariant.1) f))

pub returns-else-n-eq1 : goal.returns-else-n-eq1
returns-else-n-eq1 c =
    let a = c.args in
    let l = c.loop-p in
    (l.invariant.0, all a.n a.m a.v.now l.v (2 * l.p) (omega arith) l.invariant.1)
