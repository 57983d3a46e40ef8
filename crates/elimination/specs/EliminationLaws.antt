-- What one column of the elimination does to each cell, and how its steps are carried out row by row. Assumes nothing.
use Rattle.std.specs.Prelude.{ℕ, ◌<◌, ◌≤◌, Bool, true, false, cond, ◌≡◌, refl, List, [], eqb, leb, length, set, Float}
use Rattle.std.proofs.Common.{arith, ap, sym, subst, ◌∙◌, length-set, eqb-true, eq-eqb}
use Rattle.std.specs.Float.{nan, binary64}
use Rattle.std.specs.Float.Ieee.{sub, mul, div, lt, of_bits}
use Rattle.std.proofs.lemmas.Bool.{eqb-false}
use Rattle.common.specs.Lists.{at}
use Rattle.normal_equations.specs.TabLaws.{tab_same, tab_of, get_d_tab}
use Rattle.normal_equations.specs.Rows.{row, rows}
use Rattle.normal_equations.specs.RowsLaws.{line_rows}
use Rattle.normal_equations.specs.FilledInner.{OneRow, one_set}
use Rattle.normal_equations.specs.Normal.{line, cell}
use Rattle.elimination.specs.Elimination.{exchanged, swap_rows, swap_right, divided_at, divided, divide_row, divide_right, less_at, less, eliminated_row, eliminate, going, stopped, column, column_by, reduce}
use Rattle.elimination.specs.Inner.{Pivot}

-- what a swap does to each cell
pub swap_cell : (n k p : ℕ) (a : List (List Float)) (i j : ℕ) → i < n → cell (swap_rows n k p a) i j ≡ cell a (exchanged k p i) j
unfolding swap_rows
swap_cell n k p a i j h = ap (λ r. at r j) (get_d_tab n (λ x. line a (exchanged k p x)) [] i h)

-- so the number that row k is divided by comes from row p
pub swapped_pivot : (n k p : ℕ) (a c : List (List Float)) → k < n → line a p ≡ line c p → cell (swap_rows n k p a) k k ≡ cell (swap_rows n k p c) k k
swapped_pivot n k p a c h e = from a ∙ ap (λ r. at r k) e ∙ sym (from c)
  where
    from : (m : List (List Float)) → cell (swap_rows n k p m) k k ≡ cell m p k
    from m = swap_cell n k p m k k h ∙ ap (λ t. cell m (cond t p (cond (eqb k p) k k)) k) (eq-eqb k k refl)

-- what the division does to each cell: row k from column k on is divided by its number in column k
pub divide_cell : (n k : ℕ) (a : List (List Float)) (i j : ℕ) → i < n → j < n
    → cell (divide_row n k a) i j ≡ cond (eqb i k) (cond (leb k j) (div binary64 (cell a i j) (cell a i k)) (cell a i j)) (cell a i j)
unfolding divide_row divided
divide_cell n k a i j hi hj =
    ap (λ r. at r j) (get_d_tab n (λ x. cond (eqb x k) (divided n k (line a x)) (line a x)) [] i hi) ∙ by (eqb i k)
  where
    by : (t : Bool) → at (cond t (divided n k (line a i)) (line a i)) j ≡ cond t (cond (leb k j) (div binary64 (cell a i j) (cell a i k)) (cell a i j)) (cell a i j)
    by true = get_d_tab n (divided_at k (line a i)) nan j hj
    by false = refl

-- what elimination does to each cell: from column k on a row other than k loses its number in column k times row k
pub eliminate_cell : (n k : ℕ) (a : List (List Float)) (i j : ℕ) → i < n → j < n
    → cell (eliminate n k a) i j ≡ cond (eqb i k) (cell a i j) (cond (leb k j) (sub binary64 (cell a i j) (mul binary64 (cell a i k) (cell a k j))) (cell a i j))
unfolding eliminate less
eliminate_cell n k a i j hi hj =
    ap (λ r. at r j) (get_d_tab n (λ x. eliminated_row n k (line a k) x (line a x)) [] i hi) ∙ by (eqb i k)
  where
    by : (t : Bool) → at (cond t (line a i) (less n k (cell a i k) (line a k) (line a i))) j ≡ cond t (cell a i j) (cond (leb k j) (sub binary64 (cell a i j) (mul binary64 (cell a i k) (cell a k j))) (cell a i j))
    by true = refl
    by false = get_d_tab n (less_at k (cell a i k) (line a k) (line a i)) nan j hj

pub exchanged_inside : (n k p x : ℕ) → k < n → p < n → x < n → exchanged k p x < n
exchanged_inside n k p x hk hp hx = by (eqb x k) (eqb x p)
  where
    by : (s t : Bool) → cond s p (cond t k x) < n
    by true t = hp
    by false true = hk
    by false false = hx

-- row k goes to p and row p, changed by D, to k: every row then
pub swapped : {E : Type 0} (D : E → E) (k p : ℕ) (g h u : ℕ → E) → OneRow p (g k) g h → OneRow k (D (g p)) h u
    → (x : ℕ) → u x ≡ cond (eqb x k) (D (g (exchanged k p x))) (g (exchanged k p x))
swapped {E} D k p g h u f s x = by (eqb x k) refl
  where
    rest : (t : Bool) → eqb x p ≡ t → h x ≡ g (cond t k x)
    rest true e = let q : x ≡ p = eqb-true x p e in subst (λ y. h y ≡ g k) (sym q) f.own
    rest false e = f.others x (eqb-false x p e)

    by : (t : Bool) → eqb x k ≡ t → u x ≡ cond t (D (g (cond t p (cond (eqb x p) k x)))) (g (cond t p (cond (eqb x p) k x)))
    by true e = let q : x ≡ k = eqb-true x k e in subst (λ y. u y ≡ D (g p)) (sym q) s.own
    by false e = s.others x (eqb-false x k e) ∙ rest (eqb x p) refl

-- the right side, swapped and divided
pub right_placed : (b : List Float) (k p : ℕ) (d : Float) → k < length b → p < length b
    → set (set b p (at b k)) k (div binary64 (at b p) d) ≡ divide_right (length b) k d (swap_right (length b) k p b)
unfolding divide_right swap_right
right_placed b k p d hk hp =
    let n : ℕ = length b in
    let u : List Float = set b p (at b k) in
    let lu : length u ≡ n = length-set b p (at b k) in
    tab_of n _ nan (set u k (div binary64 (at b p) d)) (length-set u k (div binary64 (at b p) d) ∙ lu)
    (λ x l. swapped (λ y. div binary64 y d) k p (at b) (at u) (at (set u k (div binary64 (at b p) d))) (one_set b p (at b k) hp) (one_set u k (div binary64 (at b p) d) (omega arith)) x
    ∙ sym (ap (λ s. cond (eqb x k) (div binary64 s d) s) (get_d_tab n (λ i. at b (exchanged k p i)) nan x l)))

-- the rows, swapped and divided
pub rows_placed : (n : ℕ) (v h u : List Float) (k p : ℕ) → k < n → p < n
    → OneRow p (row n v k) (row n v) (row n h) → OneRow k (divided n k (row n v p)) (row n h) (row n u)
    → rows n n u ≡ divide_row n k (swap_rows n k p (rows n n v))
unfolding divide_row swap_rows
rows_placed n v h u k p hk hp f s =
    tab_same n _ _
    (λ x l. swapped (divided n k) k p (row n v) (row n h) (row n u) f s x
    ∙ sym (ap (λ r. cond (eqb x k) (divided n k r) r)
    (get_d_tab n (λ i. line (rows n n v) (exchanged k p i)) [] x l ∙ line_rows n n v (exchanged k p x) (exchanged_inside n k p x hk hp l))))

-- a stage, part by part
pub going_both : {a c : List (List Float)} {b d : List Float} → a ≡ c → b ≡ d → going a b ≡ going c d
going_both e f = rw (e, f)

-- a column by what the test of its pivot says
pub pivot_small : (n k : ℕ) (a : List (List Float)) (b : List Float) (p : ℕ) (size : Float) → Pivot n k a p size → (t : Bool)
    → lt size (of_bits binary64 0x3C32_725D_D1D2_43AC) ≡ t → column n k (going a b) ≡ cond t stopped (reduce n k p a b)
pivot_small n k a b p size v t e =
    ap (λ q. column_by n k q a b) (sym v.chosen) ∙ ap (λ s. cond (lt s (of_bits binary64 0x3C32_725D_D1D2_43AC)) stopped (reduce n k p a b)) (sym v.sized)
    ∙ ap (λ s. cond s stopped (reduce n k p a b)) e

-- a choice between two rows, and what goes with it
pub choice : (t : Bool) (i p r : ℕ) (f : ℕ → Float) (s : Float) → r ≡ cond t i p → s ≡ cond t (f i) (f p) → s ≡ f r
choice true i p r f s e g = g ∙ ap f (sym e)
choice false i p r f s e g = g ∙ ap f (sym e)

pub choice_within : (t : Bool) (i p r k n : ℕ) → r ≡ cond t i p → k ≤ i → i < n → k ≤ p → p < n → (k ≤ r) × (r < n)
choice_within true i p r k n e h l g m = (omega arith, omega arith)
choice_within false i p r k n e h l g m = (omega arith, omega arith)
