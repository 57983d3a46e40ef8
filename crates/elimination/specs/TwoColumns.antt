-- Two columns of the elimination at once: the second pivot is found, and its row placed, while the other rows wait for the first elimination. Assumes nothing.
use Prim.Native.Nat.{ℕ, zero, suc, ◌+◌, ◌*◌, ◌-◌, ◌<◌, ◌≤◌}
use Rattle.std.proofs.Common.{arith, subst, ◌∙◌, length-set, get_or-set_same, get_or-set_other}
use Rattle.std.specs.Prelude.{Bool, ◌≡◌, leb, ltb, length, set, Float}
use Rattle.std.proofs.Math.Bool.{true, false, cond}
use Rattle.std.proofs.Math.Path.{refl, ap, sym}
use mathlib.Core.List.{List, []}
use Rattle.std.proofs.Math.Dec.{eqb}
use Rattle.std.specs.Float.{nan, inf, fin, binary64}
use Rattle.std.specs.Float.Ieee.{sub, mul, div, neg, lt}
use borrow.Author.Tests.{eqb-true, eqb-false, eq-eqb, ne_eqb, le-leb, lt-leb, ltb-true, ltb-false}
use Rattle.common.specs.Iter.{iter}
use Rattle.common.specs.Lists.{at}
use Rattle.float.specs.Ops.{abs}
use Rattle.normal_equations.specs.TabLaws.{tab_same, tab_of, get_d_tab}
use Rattle.normal_equations.specs.Rows.{row, rows}
use Rattle.normal_equations.specs.RowsLaws.{line_rows, cell_rows}
use Rattle.normal_equations.specs.FilledInner.{Filled, OneRow}
use Rattle.normal_equations.specs.Normal.{line, cell}
use Rattle.elimination.specs.Elimination.{larger, pivot, exchanged, swap_rows, divided, divide_row, less_at, less, eliminated_row, eliminate, eliminate_right}
use Rattle.elimination.specs.EliminationLaws.{swap_cell, divide_cell, eliminate_cell, choice_within}
use Rattle.elimination.specs.Inner.{Column, Pivot, PivotOf, right_less, less_two, two_row, eliminate_two}

-- a sign does not matter to a size
pub abs_neg : (x : Float) → abs (neg x) ≡ abs x
unfolding abs neg
abs_neg nan = refl
abs_neg (inf s) = refl
abs_neg (fin s m e) = refl

-- the pivot by the numbers of a column is the pivot of any rows that it is column k of
pub pivot_of : (n k : ℕ) (col : List Float) (p : ℕ) (size : Float) → k < n
    → p ≡ iter (λ i q. cond (lt (abs (at col q)) (abs (at col (k + 1 + i)))) (k + 1 + i) q) k (n - (k + 1)) → size ≡ abs (at col p) → p < n → k ≤ p
    → PivotOf n k col p size
unfolding pivot iter
pivot_of n k col p size hk chosen sized inside least a h =
    record { chosen = chosen ∙ (same (n - (k + 1)) (omega arith)).1; sized = sized ∙ ap abs (h p inside); inside = inside; least = least }
  where
    f : ℕ → ℕ → ℕ
    f i q = cond (lt (abs (at col q)) (abs (at col (k + 1 + i)))) (k + 1 + i) q

    g : ℕ → ℕ → ℕ
    g i q = larger k a (k + 1 + i) q

    same : (t : ℕ) → t ≤ n - (k + 1) → ((k ≤ iter f k t) × (iter f k t < n)) × (iter f k t ≡ iter g k t)
    same zero l = ((omega arith, hk), refl)
    same (suc t) l =
        let r : ((k ≤ iter f k t) × (iter f k t < n)) × (iter f k t ≡ iter g k t) = same t (omega arith) in
        let x : ℕ = iter f k t in
        let i : ℕ = k + 1 + t in
        let e : f t x ≡ g t x = ap (λ s. cond (lt (abs s) (abs (at col i))) i x) (h x r.0.1) ∙ ap (λ s. cond (lt (abs (cell a x k)) (abs s)) i x) (h i (omega arith)) in
        (choice_within (lt (abs (at col x)) (abs (at col i))) i x (f t x) k n refl (omega arith) (omega arith) r.0.0 r.0.1, e ∙ ap (g t) r.1)

-- the same with the lengths by other names
pub pivot_found : (n w x k : ℕ) (m : ℕ → List (List Float)) (col : List Float) (p : ℕ) (size : Float) → w ≡ n → x ≡ w → Column w k (m w) col → PivotOf x k col p size
    → Pivot n k (m n) p size
pivot_found n w x k m col p size e f h g = subst (λ y. PivotOf y k col p size) (f ∙ e) g (m n) (subst (λ y. Column y k (m y) col) e h)

-- a right side whose number k is put back
pub right_put : (b u col : List Float) (k : ℕ) → k < length b → length u ≡ length b
    → Filled (λ x. sub binary64 (at b x) (mul binary64 (at col x) (at b k))) 0 (length b) (at b) (at u) → set u k (at b k) ≡ right_less (length b) k col b
unfolding right_less
right_put b u col k h e f = tab_of (length b) _ nan (set u k (at b k)) (length-set u k (at b k) ∙ e) (λ x l. by x l (eqb x k) refl)
  where
    by : (x : ℕ) → x < length b → (t : Bool) → eqb x k ≡ t → at (set u k (at b k)) x ≡ cond t (at b x) (sub binary64 (at b x) (mul binary64 (at col x) (at b k)))
    by x l true w = let q : x ≡ k = eqb-true x k w in subst (λ y. at (set u k (at b k)) y ≡ at b y) (sym q) (get_or-set_same u k (at b k) nan (omega arith))
    by x l false w = get_or-set_other u k x (at b k) nan (eqb-false x k w) ∙ f.done x (omega arith) l

-- the right side, where col is column k of the rows m before rows k and p change places
pub right_done : (n k p : ℕ) (m : List (List Float)) (col b : List Float) → k < n → p < n → length col ≡ n → Column n k m col
    → right_less n k (set col p (at col k)) b ≡ eliminate_right n k (divide_row n k (swap_rows n k p m)) b
unfolding right_less eliminate_right
right_done n k p m col b hk hp lc h = tab_same n _ _ (λ i l. by i l (eqb i k) refl)
  where
    s : List (List Float)
    s = swap_rows n k p m

    d : List (List Float)
    d = divide_row n k s

    old : (i : ℕ) → i < n → (t : Bool) → eqb i p ≡ t → at (set col p (at col k)) i ≡ cell m (cond t k i) k
    old i l true w = let q : i ≡ p = eqb-true i p w in subst (λ y. at (set col p (at col k)) y ≡ cell m k k) (sym q) (get_or-set_same col p (at col k) nan (omega arith) ∙ h k hk)
    old i l false w = get_or-set_other col p i (at col k) nan (eqb-false i p w) ∙ h i l

    same : (i : ℕ) → i < n → eqb i k ≡ false → cell d i k ≡ cell m (cond (eqb i p) k i) k
    same i l w =
        divide_cell n k s i k l hk ∙ ap (λ t. cond t (cond (leb k k) (div binary64 (cell s i k) (cell s i k)) (cell s i k)) (cell s i k)) w
        ∙ swap_cell n k p m i k l ∙ ap (λ t. cell m (cond t p (cond (eqb i p) k i)) k) w

    by : (i : ℕ) → i < n → (t : Bool) → eqb i k ≡ t
        → cond t (at b i) (sub binary64 (at b i) (mul binary64 (at (set col p (at col k)) i) (at b k))) ≡ cond t (at b i) (sub binary64 (at b i) (mul binary64 (cell d i k) (at b k)))
    by i l true w = refl
    by i l false w = ap (λ s. sub binary64 (at b i) (mul binary64 s (at b k))) (old i l (eqb i p) refl ∙ sym (same i l w))

-- column k + 1 as elimination in column k will leave it
pub column_put : (n k : ℕ) (a top u : List Float) → k + 1 < n → length u ≡ n → top ≡ row n a k
    → ((x : ℕ) → x < n → at u x ≡ sub binary64 (at a (x * n + (k + 1))) (mul binary64 (at a (x * n + k)) (at top (k + 1))))
    → Column n (k + 1) (eliminate n k (rows n n a)) (set u k (at top (k + 1)))
column_put n k a top u h lu et f i l = by (eqb i k) refl
  where
    m : List (List Float)
    m = rows n n a

    y : Float
    y = at top (k + 1)

    ey : y ≡ cell m k (k + 1)
    ey = ap (λ r. at r (k + 1)) (et ∙ sym (line_rows n n a k (omega arith)))

    whole : cell (eliminate n k m) i (k + 1) ≡ cond (eqb i k) (cell m i (k + 1)) (sub binary64 (cell m i (k + 1)) (mul binary64 (cell m i k) (cell m k (k + 1))))
    whole = rw (le-leb k (k + 1) (omega arith)) at (eliminate_cell n k m i (k + 1) l h)

    by : (t : Bool) → eqb i k ≡ t → at (set u k y) i ≡ cell (eliminate n k m) i (k + 1)
    by true w =
        let q : i ≡ k = eqb-true i k w in
        subst (λ z. at (set u k y) z ≡ y) (sym q) (get_or-set_same u k y nan (omega arith)) ∙ ey ∙ ap (λ z. cell m z (k + 1)) (sym q)
        ∙ sym (whole ∙ rw w)
    by false w =
        get_or-set_other u k i y nan (eqb-false i k w) ∙ f i l
        ∙ ap (λ s. sub binary64 s (mul binary64 (at a (i * n + k)) y)) (sym (cell_rows n n a i (k + 1) l h))
        ∙ ap (λ s. sub binary64 (cell m i (k + 1)) (mul binary64 s y)) (sym (cell_rows n n a i k l (omega arith)))
        ∙ ap (λ s. sub binary64 (cell m i (k + 1)) (mul binary64 (cell m i k) s)) ey
        ∙ sym (whole ∙ rw w)

-- what is taken twice from number j of a row, q being the row with its number k done already
abbrev pub twice_at : ℕ → List Float → List Float → List Float → List Float → ℕ → Float
twice_at k t u r q j = sub binary64 (sub binary64 (at q j) (mul binary64 (at r k) (at t j))) (mul binary64 (sub binary64 (at r (k + 1)) (mul binary64 (at r k) (at t (k + 1)))) (at u j))

abbrev pub first_done : ℕ → List Float → List Float → List Float
first_done k t r = set r k (sub binary64 (at r k) (mul binary64 (at r k) (at t k)))

-- a row from which two rows are taken: number k for itself, the others in one go
pub two_put : (k : ℕ) (t u r w : List Float) → k + 1 < length r → length w ≡ length r
    → Filled (twice_at k t u r (first_done k t r)) (k + 1) (length r) (at (first_done k t r)) (at w) → w ≡ less_two (length r) k t u r
unfolding less
two_put k t u r w h lw f = tab_of n _ nan w lw (λ j l. by j l (ltb j k) refl (eqb j k) refl)
  where
    n : ℕ
    n = length r

    y : Float
    y = sub binary64 (at r k) (mul binary64 (at r k) (at t k))

    once : List Float
    once = less n k (at r k) t r

    at_once_law : (j : ℕ) → j < n → at once j ≡ less_at k (at r k) t r j
    at_once_law j l = get_d_tab n (less_at k (at r k) t r) nan j l

    goal : ℕ → Float
    goal = less_at (k + 1) (at once (k + 1)) u once

    early : (j : ℕ) → j < n → j < k + 1 → goal j ≡ less_at k (at r k) t r j
    early j l b = rw (lt-leb (k + 1) j b) (at_once_law j l)

    by : (j : ℕ) → j < n → (p : Bool) → ltb j k ≡ p → (q : Bool) → eqb j k ≡ q → at w j ≡ goal j
    by j l true e q _ =
        let b : j < k = ltb-true j k e in
        f.below j (omega arith) ∙ get_or-set_other r k j y nan (λ z. omega arith) ∙ sym (early j l (omega arith) ∙ rw (lt-leb k j b))
    by j l false e true d =
        let q : j ≡ k = eqb-true j k d in
        f.below j (omega arith) ∙ subst (λ z. at (set r k y) z ≡ less_at k (at r k) t r z) (sym q) (get_or-set_same r k y nan (omega arith) ∙ sym (rw (le-leb k k (omega arith))))
        ∙ sym (early j l (omega arith))
    by j l false e false d =
        let c : k ≤ j = ltb-false j k e in
        let g : j ≡ k → ⊥ = eqb-false j k d in
        let b : k + 1 ≤ j = omega (arith, c, g) in
        f.done j b l
        ∙ ap (λ x. sub binary64 (sub binary64 x (mul binary64 (at r k) (at t j))) (mul binary64 (sub binary64 (at r (k + 1)) (mul binary64 (at r k) (at t (k + 1)))) (at u j))) (get_or-set_other r k j y nan g)
        ∙ ap (λ s. sub binary64 s (mul binary64 (sub binary64 (at r (k + 1)) (mul binary64 (at r k) (at t (k + 1)))) (at u j))) (sym (at_once_law j l ∙ rw (le-leb k j c)))
        ∙ ap (λ s. sub binary64 (at once j) (mul binary64 s (at u j))) (sym (at_once_law (k + 1) h ∙ rw (le-leb k (k + 1) (omega arith))))
        ∙ sym (rw (le-leb (k + 1) j b))

-- row i by cases
module _ (n k : ℕ) (t u : List Float) (i : ℕ) (r : List Float) where
  pub two_first : i ≡ k → eliminated_row n (k + 1) u i r ≡ two_row n k t u i r
  two_first e =
      sym (ap (λ b. cond b r (eliminated_row n (k + 1) u i (eliminated_row n k t i r))) (ne_eqb i (k + 1) (λ z. omega arith))
      ∙ ap (λ b. eliminated_row n (k + 1) u i (cond b r (less n k (at r k) t r))) (eq-eqb i k e))

  pub two_second : i ≡ k + 1 → r ≡ two_row n k t u i r
  two_second e = sym (ap (λ b. cond b r (eliminated_row n (k + 1) u i (eliminated_row n k t i r))) (eq-eqb i (k + 1) e))

  pub two_rest : (i ≡ k → ⊥) → (i ≡ k + 1 → ⊥) → less_two n k t u r ≡ two_row n k t u i r
  two_rest g h =
      sym (ap (λ b. cond b r (cond b (eliminated_row n k t i r) (less n (k + 1) (at (eliminated_row n k t i r) (k + 1)) u (eliminated_row n k t i r)))) (ne_eqb i (k + 1) h)
      ∙ ap (λ b. less n (k + 1) (at (cond b r (less n k (at r k) t r)) (k + 1)) u (cond b r (less n k (at r k) t r))) (ne_eqb i k g))

-- rows k + 1 and q change places with row q alone being eliminated; v before that, w after it, u with the rows placed
module _ (n k q : ℕ) (v w u top next : List Float) (hk : k + 1 < n) (hq : q < n) (lq : k + 1 ≤ q) (first : top ≡ row n v k)
    (one : OneRow q (eliminated_row n k top q (row n v q)) (row n v) (row n w)) (placed : rows n n u ≡ divide_row n (k + 1) (swap_rows n (k + 1) q (rows n n w)))
    (tops : next ≡ row n u (k + 1)) where
  abbrev pub whole : List (List Float)
  whole = eliminate n k (rows n n v)

  abbrev pub exch : ℕ → ℕ
  exch = exchanged (k + 1) q

  -- rows of the eliminated matrix
  whole_line : (i : ℕ) → i < n → line whole i ≡ eliminated_row n k top i (row n v i)
  unfolding eliminate
  whole_line i l =
      get_d_tab n (λ x. eliminated_row n k (line (rows n n v) k) x (line (rows n n v) x)) [] i l
      ∙ ap (λ t. eliminated_row n k t i (line (rows n n v) i)) (line_rows n n v k (omega arith) ∙ sym first)
      ∙ ap (λ r. eliminated_row n k top i r) (line_rows n n v i l)

  -- row q is the same in both
  pub pivot_line : line (rows n n w) q ≡ line whole q
  pivot_line = line_rows n n w q hq ∙ one.own ∙ sym (whole_line q hq)

  swap_line : (m : List (List Float)) (i : ℕ) → i < n → line (swap_rows n (k + 1) q m) i ≡ line m (exch i)
  unfolding swap_rows
  swap_line m i l = get_d_tab n (λ x. line m (exchanged (k + 1) q x)) [] i l

  divide_line : (m : List (List Float)) (i : ℕ) → i < n → line (divide_row n (k + 1) m) i ≡ cond (eqb i (k + 1)) (divided n (k + 1) (line m i)) (line m i)
  unfolding divide_row
  divide_line m i l = get_d_tab n (λ x. cond (eqb x (k + 1)) (divided n (k + 1) (line m x)) (line m x)) [] i l

  own : eqb (k + 1) (k + 1) ≡ true
  own = eq-eqb (k + 1) (k + 1) refl

  placed_line : (m : List (List Float)) (i : ℕ) → i < n → line (divide_row n (k + 1) (swap_rows n (k + 1) q m)) i ≡ cond (eqb i (k + 1)) (divided n (k + 1) (line m (exch i))) (line m (exch i))
  placed_line m i l = divide_line (swap_rows n (k + 1) q m) i l ∙ ap (λ r. cond (eqb i (k + 1)) (divided n (k + 1) r) r) (swap_line m i l)

  u_line : (i : ℕ) → i < n → row n u i ≡ cond (eqb i (k + 1)) (divided n (k + 1) (line (rows n n w) (exch i))) (line (rows n n w) (exch i))
  u_line i l = sym (line_rows n n u i l) ∙ ap (λ m. line m i) placed ∙ placed_line (rows n n w) i l

  abbrev pub target : List (List Float)
  target = divide_row n (k + 1) (swap_rows n (k + 1) q whole)

  -- row k + 1 is the same in both
  next_line_law : next ≡ line target (k + 1)
  next_line_law = tops ∙ u_line (k + 1) hk ∙ at_own (rows n n w) ∙ ap (divided n (k + 1)) pivot_line ∙ sym (placed_line whole (k + 1) hk ∙ at_own whole)
    where
      at_own : (m : List (List Float)) → cond (eqb (k + 1) (k + 1)) (divided n (k + 1) (line m (exch (k + 1)))) (line m (exch (k + 1))) ≡ divided n (k + 1) (line m q)
      at_own m = rw own

  -- another row still waits for the first elimination
  waits : (i : ℕ) → i < n → (i ≡ k + 1 → ⊥) → (s : Bool) → eqb i q ≡ s → eliminated_row n k top i (line (rows n n w) (cond s (k + 1) i)) ≡ line whole (cond s (k + 1) i)
  waits i l ne true e =
      let z : i ≡ q = eqb-true i q e in
      ap (λ r. eliminated_row n k top i r) (line_rows n n w (k + 1) hk ∙ one.others (k + 1) (λ p. ne (z ∙ sym p)))
      ∙ ap (λ t. cond t (row n v (k + 1)) (less n k (at (row n v (k + 1)) k) top (row n v (k + 1)))) (ne_eqb i k (λ p. omega arith) ∙ sym (ne_eqb (k + 1) k (λ p. omega arith)))
      ∙ sym (whole_line (k + 1) hk)
  waits i l ne false e =
      ap (λ r. eliminated_row n k top i r) (line_rows n n w i l ∙ one.others i (eqb-false i q e)) ∙ sym (whole_line i l)

  pub two_done : eliminate_two n k top next u ≡ eliminate n (k + 1) target
  unfolding eliminate_two eliminate
  two_done = tab_same n _ _ (λ i l. by i l (eqb i (k + 1)) refl)
    where
      by : (i : ℕ) → i < n → (t : Bool) → eqb i (k + 1) ≡ t → two_row n k top next i (row n u i) ≡ eliminated_row n (k + 1) (line target (k + 1)) i (line target i)
      by i l true e =
          let z : i ≡ k + 1 = eqb-true i (k + 1) e in
          rw e (ap (row n u) z ∙ sym tops ∙ next_line_law ∙ ap (line target) (sym z))
      by i l false e =
          let x : ℕ = cond (eqb i q) (k + 1) i in
          let at_x : (m : List (List Float)) → cond (eqb i (k + 1)) (divided n (k + 1) (line m (exch i))) (line m (exch i)) ≡ line m x =
          λ m. ap (λ t. cond t (divided n (k + 1) (line m (cond t q x))) (line m (cond t q x))) e in
          let eu : row n u i ≡ line (rows n n w) x = u_line i l ∙ at_x (rows n n w) in
          let et : line target i ≡ line whole x = placed_line whole i l ∙ at_x whole in
          let ne : i ≡ k + 1 → ⊥ = eqb-false i (k + 1) e in
          let ew : eliminated_row n k top i (row n u i) ≡ line target i = ap (λ r. eliminated_row n k top i r) eu ∙ waits i l ne (eqb i q) refl ∙ sym et in
          ap (λ t. cond t (row n u i) (eliminated_row n (k + 1) next i (eliminated_row n k top i (row n u i)))) e
          ∙ ap (λ r. eliminated_row n (k + 1) next i r) ew
          ∙ ap (λ t. eliminated_row n (k + 1) t i (line target i)) next_line_law
