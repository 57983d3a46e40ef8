-- The loop over a Jacobian's columns: one column more, a refused run, and the whole; and each column by itself. Assumes nothing.
use Prim.Native.Nat.{ℕ, zero, suc, ◌+◌, ◌*◌, ◌≤◌, ◌<◌}
use Rattle.std.specs.Prelude.{◌≡◌, refl, length, take, Float, Ok, Err}
use Rattle.std.proofs.Math.Path.{ap, sym, subst}
use Rattle.std.proofs.Common.{◌∙◌, inr, arith, length-append, below_more}
use mathlib.Core.List.{List, [], ◌∷◌, ◌++◌}
use Rattle.std.proofs.Math.ListN.{get_or-append}
use Rattle.std.proofs.lemmas.List.{get_or_at}
use Rattle.common.specs.Iter.{iter}
use Rattle.common.specs.IterLaws.{iter_next, iter_stays}
use Rattle.common.specs.Lists.{at}
use Rattle.problem.specs.declared.CheckedProblem.{CheckedProblem}
use Rattle.residuals.specs.Residuals.{residuals_of}
use Rattle.residuals.specs.declared.ResidualVector.{ResidualVector}
use Rattle.normal_equations.specs.Normal.{line, slopes}
use Rattle.normal_equations.specs.Rows.{row}
use Rattle.normal_equations.specs.RowsLaws.{row_take}
use Rattle.kept_rows.specs.Kept.{kept, scatter, columns}
use Rattle.kept_rows.specs.KeptLaws.{columns_none, columns_more, columns_same}
use Rattle.scvx.specs.Search.{numbers, width, perturb, Columns, Formed, Broken, column_by, column_of, column_turn, jacobian}
use Rattle.scvx.specs.ProgressInner.{ColumnStands, ColumnLeft, SameFrom, columns_in}
use Rattle.common.specs.Refusals.{Fate, going}
use Rattle.common.specs.declared.Refusal.{Refusal}

module _ (p : CheckedProblem) (m : ℕ) (z r0 : List Float) where
  -- v holds the kept rows of the first c columns, one after the other
  abbrev pub Front : ℕ → List Float → Type 0
  Front c v = iter (column_turn p m z r0) (Formed []) c ≡ Formed (columns c m v)

  pub front_none : (v : List Float) → Front 0 v
  unfolding iter
  front_none v = ap Formed (columns_none m v)

  module _ (c : ℕ) (v : List Float) (front : Front c v) where
    abbrev e : ResidualVector
    e = residuals_of p (perturb p z c)

    by_run : {j : Columns} → j ≡ column_of m r0 c (columns c m v) e → j ≡ iter (column_turn p m z r0) (Formed []) (c + 1)
    by_run g = iter_next (column_turn p m z r0) (Formed []) c (sym front) g

    -- one column more
    pub front_next : (u : List Float) {f : Fate} → f ≡ e.fate → f ≡ going → ColumnLeft f m c (slopes m e.r r0) v u → Front (c + 1) u
    front_next u fate f left =
        let stands : ColumnStands m c (slopes m e.r r0) v u = subst (λ (x : Fate). ColumnLeft x m c (slopes m e.r r0) v u) f left in
        let same : columns c m u ≡ columns c m v = columns_same c m u v (λ x l. stands.put.others x (λ b. omega arith)) in
        sym (by_run (ap Formed (columns_more c m u ∙ ap (λ l. l ++ (scatter m (row (kept m) u c) ∷ [])) same ∙ ap (λ x. columns c m v ++ (x ∷ [])) stands.whole)
        ∙ sym (ap (λ (x : Fate). column_by m r0 c (columns c m v) x e.r) (sym fate ∙ f))))

    -- either way as many numbers, and all past the column
    pub left_length : (u : List Float) (f : Fate) → ColumnLeft f m c (slopes m e.r r0) v u → length u ≡ length v
    left_length u (Ok _) stands = stands.put.size
    left_length u (Err why) same = ap length same

    pub left_past : (u : List Float) (f : Fate) → ColumnLeft f m c (slopes m e.r r0) v u → (end : ℕ) → c * kept m + kept m ≤ end → SameFrom end v u
    left_past u (Ok _) stands end h i l = stands.put.outside i (inr (omega arith))
    left_past u (Err why) same end h i l = ap (λ w. at w i) same

    -- a run that is refused ends the columns
    pub front_broken : {why : Refusal} → m ≡ width p → c < numbers p → e.fate ≡ Err why → jacobian p z r0 ≡ Broken why (c + 1)
    unfolding jacobian
    front_broken em h f =
        rw (← em)
        (sym (iter_stays (column_turn p m z r0) (Formed []) (c + 1) (numbers p) (omega arith)
        (by_run (sym (ap (λ (x : Fate). column_by m r0 c (columns c m v) x e.r) f)))
        (λ j. refl)))

  -- all of them: the Jacobian stands in the front of v
  pub front_whole : (n : ℕ) (v : List Float) → n ≡ numbers p → m ≡ width p → n * kept m ≤ length v → Front n v → jacobian p z r0 ≡ Formed (columns_in n m v)
  unfolding jacobian
  front_whole n v en em room front =
      rw (← en, ← em)
      (front ∙ ap Formed (columns_same n m v (take (n * kept m) v) (λ i h. sym (row_take n (kept m) v i h room))))

-- ---- each column by itself: what the others are does not enter
module _ (p : CheckedProblem) (m : ℕ) (z r0 : List Float) where
  -- the first k columns: each is made by its own run, which goes on
  pub record Each (k : ℕ) (l : List (List Float)) : Type 0 where
    pub count : length l ≡ k
    pub goes : (c : ℕ) → c < k → (residuals_of p (perturb p z c)).fate ≡ going
    pub own : (c : ℕ) → c < k → line l c ≡ slopes m (residuals_of p (perturb p z c)).r r0

  each_more : (k : ℕ) (l : List (List Float)) {x : List (List Float)} (f : Fate) → (residuals_of p (perturb p z k)).fate ≡ f
      → column_by m r0 k l f (residuals_of p (perturb p z k)).r ≡ Formed x → Each k l → Each (suc k) x
  each_more k l {x} (Ok _) g e h =
      let q : List Float = slopes m (residuals_of p (perturb p z k)).r r0 in
      let longer : l ++ (q ∷ []) ≡ x = cc in
      subst (λ y. Each (suc k) y) longer
      (record {
        count = omega (arith, length-append l (q ∷ []), h.count);
        goes = λ c b. below_more (λ d. (residuals_of p (perturb p z d)).fate ≡ going) k h.goes g c (omega arith);
        own = λ c b.
            below_more (λ d. line (l ++ (q ∷ [])) d ≡ slopes m (residuals_of p (perturb p z d)).r r0) k
            (λ d b. get_or-append l (q ∷ []) [] d (omega (arith, h.count)) ∙ h.own d b)
            (get_or_at l q [] [] k h.count) c (omega arith);
      })
  each_more k l (Err why) g e h = let no : ◌≡◌ {A = ℕ} 0 1 = cc in absurd (omega arith)

  each_turn : (k : ℕ) (j : Columns) → ((l : List (List Float)) → j ≡ Formed l → Each k l) → (x : List (List Float)) → column_turn p m z r0 k j ≡ Formed x → Each (suc k) x
  each_turn k (Formed l) h x e = each_more k l (residuals_of p (perturb p z k)).fate refl e (h l refl)
  each_turn k (Broken why runs) h x e = let no : ◌≡◌ {A = ℕ} 0 1 = cc in absurd (omega arith)

  each_of : (k : ℕ) (l : List (List Float)) → iter (column_turn p m z r0) (Formed []) k ≡ Formed l → Each k l
  unfolding iter
  each_of zero l e =
      let none : [] ≡ l = cc in
      subst (λ y. Each 0 y) none (record { count = refl; goes = λ c b. absurd (omega arith); own = λ c b. absurd (omega arith) })
  each_of (suc k) l e = each_turn k (iter (column_turn p m z r0) (Formed []) k) (each_of k) l e

-- of a Jacobian that is formed
pub jacobian_each : (p : CheckedProblem) (z r0 : List Float) {j : List (List Float)} → jacobian p z r0 ≡ Formed j → Each p (width p) z r0 (numbers p) j
unfolding jacobian
jacobian_each p z r0 {j} e = each_of p (width p) z r0 (numbers p) j e
