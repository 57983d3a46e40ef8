-- Each cell of the normal equations is one sum over the residual rows, in order from +0.0. Assumes nothing.
use Rattle.std.specs.Prelude.{ℕ, zero, suc, ◌+◌, ◌*◌, ◌<◌, ◌≤◌, length, take, drop, set, Bool, true, false, cond, ◌≡◌, refl, List, [], eqb, ltb, Float}
use Rattle.std.proofs.Common.{arith, ltb-true, ltb-false, mul_comm, add-mul, ap, sym, ◌∙◌}
use Rattle.common.specs.Floats.{plus_zero}
use Rattle.normal_equations.specs.FilledInner.{Filled, filled_four}
use Rattle.std.specs.Float.{nan, inf, fin, Format, binary64}
use Rattle.std.specs.Float.Ieee.{add, mul, neg, unlike, up, down}
use Rattle.common.specs.Iter.{iter}
use Rattle.common.specs.Lists.{at, slice}
use Rattle.normal_equations.specs.Tab.{tab}
use Rattle.normal_equations.specs.TabLaws.{get_d_tab, tab_same, tab_of}
use Rattle.normal_equations.specs.Normal.{line, cell, row_onto, blank, gram, damped, normal_matrix, term_onto, right_side, dot}
use Rattle.normal_equations.specs.Inner.{cells_of, Dots, sums_of, Summed, mirrored_at, mirrored_row}
use Rattle.normal_equations.specs.Rows.{row, rows}
use Rattle.normal_equations.specs.RowsLaws.{length_row, part_row, line_rows, at_row}

-- a cell of a matrix given by a rule
pub cell_tab : (n : ℕ) (f : ℕ → ℕ → Float) (c d : ℕ) → c < n → d < n → cell (tab n (λ i. tab n (f i))) c d ≡ f c d
cell_tab n f c d hc hd = ap (λ r. at r d) (get_d_tab n (λ i. tab n (f i)) [] c hc) ∙ get_d_tab n (f c) nan d hd

-- the sums of m residual rows, cell by cell
pub sum_cell : (n m : ℕ) (j : List (List Float)) (c d : ℕ) → c < n → d < n → cell (iter (row_onto n j) (blank n) m) c d ≡ dot m (line j c) (line j d)
unfolding iter row_onto blank
sum_cell n zero j c d hc hd = cell_tab n (λ _ _. plus_zero) c d hc hd
sum_cell n (suc m) j c d hc hd =
    cell_tab n (λ x y. add binary64 (cell (iter (row_onto n j) (blank n) m) x y) (mul binary64 (cell j x m) (cell j y m))) c d hc hd
    ∙ ap (λ s. add binary64 s (mul binary64 (cell j c m) (cell j d m))) (sum_cell n m j c d hc hd)

-- a cell of the matrix
pub normal_cell : (n m : ℕ) (j : List (List Float)) (lambda : Float) (c d : ℕ) → c < n → d < n
    → cell (normal_matrix n m j lambda) c d ≡ cond (eqb c d) (add binary64 (dot m (line j c) (line j d)) lambda) (dot m (line j c) (line j d))
unfolding normal_matrix damped
normal_cell n m j lambda c d hc hd =
    cell_tab n (λ x y. cond (eqb x y) (add binary64 (cell (iter (row_onto n j) (blank n) m) x y) lambda) (cell (iter (row_onto n j) (blank n) m) x y)) c d hc hd
    ∙ ap (λ s. cond (eqb c d) (add binary64 s lambda) s) (sum_cell n m j c d hc hd)

-- the matrix is the Gram matrix, damped
pub normal_damped : (n m : ℕ) (j : List (List Float)) (lambda : Float) → damped n lambda (gram n m j) ≡ normal_matrix n m j lambda
unfolding normal_matrix gram
normal_damped n m j lambda = refl

-- the Gram matrix, sum by sum
pub gram_sums : (n m : ℕ) (j : List (List Float)) → gram n m j ≡ tab n (λ c. tab n (λ d. dot m (line j c) (line j d)))
unfolding gram iter row_onto blank
gram_sums n zero j = refl
gram_sums n (suc m) j =
    tab_same n _ _ (λ c hc. tab_same n _ _ (λ d hd. ap (λ s. add binary64 s (mul binary64 (cell j c m) (cell j d m))) (sum_cell n m j c d hc hd)))

-- the sums of the right side
pub right_sum : (n m : ℕ) (j : List (List Float)) (r : List Float) (c : ℕ) → c < n → at (iter (term_onto n j r) (tab n (λ k. plus_zero)) m) c ≡ dot m (line j c) r
unfolding iter term_onto
right_sum n zero j r c hc = get_d_tab n (λ k. plus_zero) nan c hc
right_sum n (suc m) j r c hc =
    get_d_tab n (λ x. add binary64 (at (iter (term_onto n j r) (tab n (λ k. plus_zero)) m) x) (mul binary64 (cell j x m) (at r m))) nan c hc
    ∙ ap (λ s. add binary64 s (mul binary64 (cell j c m) (at r m))) (right_sum n m j r c hc)

pub right_sums : (n m : ℕ) (j : List (List Float)) (r : List Float) → right_side n m j r ≡ tab n (λ c. neg (dot m (line j c) r))
unfolding right_side
right_sums n m j r = tab_same n _ _ (λ c hc. ap neg (right_sum n m j r c hc))

-- a product of floats does not turn on the order of its factors
unlike_comm : (s t : Bool) → unlike s t ≡ unlike t s
unlike_comm true true = refl
unlike_comm true false = refl
unlike_comm false true = refl
unlike_comm false false = refl

pub float_mul_comm : (f : Format) (x y : Float) → mul f x y ≡ mul f y x
unfolding mul
float_mul_comm f nan nan = refl
float_mul_comm f nan (inf t) = refl
float_mul_comm f nan (fin t n d) = refl
float_mul_comm f (inf s) nan = refl
float_mul_comm f (inf s) (inf t) = ap inf (unlike_comm s t)
float_mul_comm f (inf s) (fin t n d) = ap (λ b. cond (eqb n 0) nan (inf b)) (unlike_comm s t)
float_mul_comm f (fin s m e) nan = refl
float_mul_comm f (fin s m e) (inf t) = ap (λ b. cond (eqb m 0) nan (inf b)) (unlike_comm s t)
float_mul_comm f (fin s m e) (fin t n d) = rw (unlike_comm s t, mul_comm (m * up e) (n * up d), mul_comm (down e) (down d))

-- so the matrix is its own mirror image
pub dot_comm : (m : ℕ) (p q : List Float) → dot m p q ≡ dot m q p
unfolding iter
dot_comm zero p q = refl
dot_comm (suc m) p q = rw (dot_comm m p q, float_mul_comm binary64 (at p m) (at q m))

-- the same for columns and rows that lie one after the other
pub gram_rows : (n m : ℕ) (j : List Float) → gram n m (rows n m j) ≡ tab n (λ c. tab n (sums_of m j c))
gram_rows n m j =
    gram_sums n m (rows n m j)
    ∙ tab_same n _ _ (λ c hc. tab_same n _ _ (λ d hd. rw (line_rows n m j c hc, line_rows n m j d hd)))

pub right_rows : (n m : ℕ) (j r : List Float) → right_side n m (rows n m j) r ≡ tab n (λ c. neg (dot m (row m j c) r))
right_rows n m j r = right_sums n m (rows n m j) r ∙ tab_same n _ _ (λ c hc. rw (line_rows n m j c hc))

-- four cells of the row of column x
pub four_cells : (x j r : List Float) (m d : ℕ) (a b c e : Float) → length x ≡ m → d + 4 ≤ length r
    → Dots x (slice (d * m) (d * m + m) j) (slice (d * m + m) (d * m + m + m) j) (slice (d * m + m + m) (d * m + m + m + m) j) (slice (d * m + m + m + m) (d * m + m + m + m + m) j) a b c e
    → Filled (cells_of x j) d (d + 4) (at r) (at (set (set (set (set r d a) (d + 1) b) (d + 2) c) (d + 3) e))
four_cells x j r m d a b c e lx h f =
    filled_four (cells_of x j) d r a b c e h
    (part d (d * m) f.first (ap (λ k. d * k) (sym lx)))
    (part (d + 1) (d * m + m) f.second (at_next 1 (d * m + m) (omega (arith, add-mul d 1 m))))
    (part (d + 2) (d * m + m + m) f.third (at_next 2 (d * m + m + m) (omega (arith, add-mul d 2 m))))
    (part (d + 3) (d * m + m + m + m) f.fourth (at_next 3 (d * m + m + m + m) (omega (arith, add-mul d 3 m))))
  where
    at_next : (i s : ℕ) → s ≡ (d + i) * m → s ≡ (d + i) * length x
    at_next i s g = g ∙ ap (λ k. (d + i) * k) (sym lx)

    part : (i s : ℕ) {y : Float} → y ≡ dot (length x) x (slice s (s + m) j) → s ≡ i * length x → y ≡ cells_of x j i
    part i s g w = g ∙ ap (λ q. dot (length x) x q) (part_row (length x) j i s (s + m) w (ap (λ k. s + k) (sym lx)))

-- a lent part that is column c
pub part_length : (m : ℕ) (j : List Float) (c s e : ℕ) → s ≡ c * m → e ≡ s + m → c * m + m ≤ length j → length (slice s e j) ≡ m
part_length m j c s e h g room = ap length (part_row m j c s e h g) ∙ length_row m j c room

-- a row of sums, p being column c
pub summed : (m : ℕ) (j p : List Float) (c a n : ℕ) (g : ℕ → Float) (r : List Float) → p ≡ row m j c → c * m + m ≤ length j → Filled (cells_of p j) a n g (at r)
    → Summed m j c a n r
summed m j p c a n g r e h f x l b =
    f.done x l b ∙ ap (λ q. cells_of q j x) e ∙ ap (λ k. dot k (row m j c) (row k j x)) (length_row m j c h)

-- a row whose cells from the diagonal on are summed, and whose cells before it are taken from the rows above
pub row_mirrored : (n m : ℕ) (v : List Float) (c : ℕ) (p q : List Float) → length q ≡ n
    → Summed m (take (n * m) v) c c n p → Filled (λ d. at (drop (n * m) v) (d * n + c)) 0 c (at p) (at q)
    → q ≡ mirrored_row n m v c
unfolding mirrored_row
row_mirrored n m v c p q lq f h = tab_of n (mirrored_at n m v c) nan q lq (λ x l. by x l (ltb x c) refl)
  where
    by : (x : ℕ) → x < n → (t : Bool) → ltb x c ≡ t → at q x ≡ mirrored_at n m v c x
    by x l true d = h.done x (omega arith) (ltb-true x c d) ∙ rw d
    by x l false d = h.above x (ltb-false x c d) ∙ f x (ltb-false x c d) l ∙ rw d

-- such a row is the Gram matrix's own, since that is its own mirror image
pub row_right : (n m : ℕ) (v w : List Float) (c : ℕ) → c < n → take (n * m) v ≡ w
    → ((x : ℕ) → x < c → row n (drop (n * m) v) x ≡ tab n (sums_of m w x)) → mirrored_row n m v c ≡ tab n (sums_of m w c)
unfolding mirrored_row
row_right n m v w c hc same done = tab_same n (mirrored_at n m v c) (sums_of m w c) (λ d l. by d l (ltb d c) refl)
  where
    by : (d : ℕ) → d < n → (t : Bool) → ltb d c ≡ t → mirrored_at n m v c d ≡ sums_of m w c d
    by d l true e =
        rw e
        (sym (at_row n (drop (n * m) v) d c hc) ∙ ap (λ r. at r c) (done d (ltb-true d c e)) ∙ get_d_tab n (sums_of m w d) nan c hc
        ∙ dot_comm m (row m w d) (row m w c))
    by d l false e = rw e (ap (λ j. sums_of m j c d) same)
