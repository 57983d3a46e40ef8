-- Two columns a turn; a refusal stays to the end (`iter_stays`).
use Rattle.std.proofs.Common.{◌≡◌, refl, ap, sym, subst, ◌∙◌, ℕ, ◌+◌, ◌*◌, ◌-◌, Bool, true, false, List, length, arith}
use Rattle.std.specs.Float.Ieee.{Float}
use Rattle.common.specs.Iter.{iter}
use Rattle.common.specs.IterLaws.{iter_none, iter_next, iter_stays}
use Rattle.normal_equations.specs.Rows.{rows}
use Rattle.elimination.specs.Elimination as Elimination
use Rattle.elimination.proofs.solve_dense.Goals as goal
use Rattle.elimination.proofs.solve_dense.Goals.{After-columns}

-- two turns
two_more : (n k : ℕ) (m : Elimination.Stage) (x y : Elimination.Stage) → x ≡ iter (Elimination.column n) m k → Elimination.column n (k + 1) (Elimination.column n k x) ≡ y
    → y ≡ iter (Elimination.column n) m (k + 2)
two_more n k m x y e f =
    let t : k + 1 + 1 ≡ k + 2 = omega arith in
    rw t at (iter_next (Elimination.column n) m (k + 1) (iter_next (Elimination.column n) m k e refl) (sym f))

-- what a turn leaves
turn : (c : After-columns) → Elimination.after c.columns.result (rows (length c.args.b.now) (length c.args.b.now) c.columns.new.a) c.columns.new.b
    ≡ iter (Elimination.column (length c.args.b.now)) (Elimination.going (rows (length c.args.b.now) (length c.args.b.now) c.args.a.now) c.args.b.now) (2 * c.loop-p.p + 2)
turn c =
    let l = c.loop-p in
    let t = c.columns in
    let k : ℕ = 2 * l.p in
    let e : length l.b ≡ length c.args.b.now = omega arith in
    two_more (length c.args.b.now) k _ _ _ l.invariant
    (subst (λ w. Elimination.column w (k + 1) (Elimination.column w k (Elimination.going (rows w w l.a) l.b)) ≡ Elimination.after t.result (rows w w t.new.a) t.new.b) e t.ensures)

pub loop-p-init : goal.loop-p-init
loop-p-init c = iter_none _ _

pub returns-then-not-columns : goal.returns-then-not-columns
unfolding Elimination.solve_dense
returns-then-not-columns c =
    let n : ℕ = length c.args.b.now in
    let t = c.columns in
    ap Elimination.solution_of (iter_stays _ _ (2 * c.loop-p.p + 2) n (omega arith) (ap (λ r. Elimination.after r (rows n n t.new.a) t.new.b) (sym c.if-not-columns.true) ∙ turn (goal.at.returns-then-not-columns c).After-columns) (λ j. refl))

pub loop-p-preserved : goal.loop-p-preserved
loop-p-preserved c =
    let n : ℕ = length c.args.b.now in
    let t = c.columns in
    let next : 2 * c.loop-p.p + 2 ≡ 2 * (c.loop-p.p + 1) = omega arith in
    subst (λ k. Elimination.going (rows n n t.new.a) t.new.b ≡ iter (Elimination.column n) (Elimination.going (rows n n c.args.a.now) c.args.b.now) k) next
    (ap (λ r. Elimination.after r (rows n n t.new.a) t.new.b) (sym c.if-not-columns.false) ∙ turn (goal.at.loop-p-preserved c).After-columns)

pub returns-then-n-eq0 : goal.returns-then-n-eq0
unfolding Elimination.solve_dense
returns-then-n-eq0 c =
    let e : 2 * c.loop-p.p ≡ length c.args.b.now = omega arith in
    ap Elimination.solution_of (rw e at c.loop-p.invariant)

-- what a column's answer says
told : (r : Bool) (x : List (List Float)) (y : List Float) → Elimination.told r y ≡ Elimination.solution_of (Elimination.after r x y)
told true x y = refl
told false x y = refl

pub returns : goal.returns
unfolding Elimination.solve_dense
returns c =
    let a = c.args in
    let l = c.loop-p in
    let t = c.column in
    let n : ℕ = length a.b.now in
    let k : 2 * l.p ≡ n - 1 = omega arith in
    let e : length l.b ≡ n = omega arith in
    let all : n - 1 + 1 ≡ n = omega arith in
    let f : Elimination.column n (n - 1) (Elimination.going (rows n n l.a) l.b) ≡ Elimination.after t.result (rows n n t.new.a) t.new.b =
    subst (λ w. Elimination.column w (n - 1) (Elimination.going (rows w w l.a) l.b) ≡ Elimination.after t.result (rows w w t.new.a) t.new.b) e t.ensures in
    let m : Elimination.Stage = Elimination.going (rows n n a.a.now) a.b.now in
    told t.result (rows n n t.new.a) t.new.b
    ∙ ap Elimination.solution_of (subst (λ x. Elimination.after t.result (rows n n t.new.a) t.new.b ≡ iter (Elimination.column n) m x) all
    (iter_next (Elimination.column n) m (n - 1) (subst (λ x. Elimination.going (rows n n l.a) l.b ≡ iter (Elimination.column n) m x) k l.invariant) (sym f)))
