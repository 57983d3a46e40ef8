-- The laws of rows that lie one after the other: lengths, places, a row or a part that comes back. Assumes nothing.
use Rattle.std.specs.Prelude.{ℕ, ◌+◌, ◌*◌, ◌-◌, ◌<◌, ◌≤◌, min, ◌≡◌, refl, ◌⊎◌, Bool, true, false, List, [], ◌∷◌, ◌++◌, length, get_or, take, drop, ltb, Float}
use Rattle.std.proofs.Common.{arith, add-one, ap, sym, ◌∙◌, inl, inr, ⊎_elim, append_assoc, append-nil, length-append, length-take, length-drop, drop_of_length-le, length-take-le, get_or-take, get_or-drop, get_or-append-add, ext_get_or, drop_at, take_at, take_all, ltb-true, ltb-false}
use Rattle.std.proofs.Math.ListN.{get_or-append}
use Rattle.std.specs.Float.{nan}
use Rattle.common.specs.IterLaws.{row_end}
use Rattle.common.specs.Lists.{at, slice, pasted}
use Rattle.normal_equations.specs.Tab.{tab}
use Rattle.normal_equations.specs.TabLaws.{get_d_tab, tab_same}
use Rattle.normal_equations.specs.Rows.{row, rows}

pub length_row : (w : ℕ) (v : List Float) (i : ℕ) → i * w + w ≤ length v → length (row w v i) ≡ w
length_row w v i h = length-take-le w (drop (i * w) v) (omega (arith, length-drop (i * w) v))

pub at_row : (w : ℕ) (v : List Float) (i j : ℕ) → j < w → at (row w v i) j ≡ at v (i * w + j)
at_row w v i j h = get_or-take w (drop (i * w) v) j nan h ∙ get_or-drop (i * w) v j nan

-- a part that comes back: its length, and the places outside of it
pub length_pasted : (v p : List Float) (s e : ℕ) → s ≤ e → e ≤ length v → length p ≡ e - s → length (pasted v s e p) ≡ length v
length_pasted v p s e hs he hp =
    omega (
      arith,
      length-append (take s v) (p ++ drop (e - s) (drop s v)),
      length-append p (drop (e - s) (drop s v)),
      length-take-le s v (omega arith),
      length-drop (e - s) (drop s v),
      length-drop s v,
    )

pub at_pasted_before : (v p : List Float) (s e x : ℕ) → x < s → s ≤ length v → at (pasted v s e p) x ≡ at v x
at_pasted_before v p s e x h l = get_or-append (take s v) (p ++ drop (e - s) (drop s v)) nan x (omega (arith, length-take-le s v l)) ∙ get_or-take s v x nan h

pub at_pasted_after : (v p : List Float) (s e x : ℕ) → s ≤ e → e ≤ length v → length p ≡ e - s → e ≤ x → at (pasted v s e p) x ≡ at v x
at_pasted_after v p s e x hs he hp h =
    let lt : length (take s v) ≡ s = length-take-le s v (omega arith) in
    let lq : length (take s v ++ p) ≡ e = omega (arith, length-append (take s v) p) in
    let ex : x ≡ length (take s v ++ p) + (x - e) = omega arith in
    ap (λ r. at r x) (sym (append_assoc (take s v) p (drop (e - s) (drop s v))))
    ∙ ap (λ k. at ((take s v ++ p) ++ drop (e - s) (drop s v)) k) ex
    ∙ get_or-append-add (take s v ++ p) (drop (e - s) (drop s v)) (x - e) nan
    ∙ get_or-drop (e - s) (drop s v) (x - e) nan
    ∙ get_or-drop s v (e - s + (x - e)) nan
    ∙ ap (λ k. at v k) (omega arith)

-- rows i and x have no place in common
pub apart : (i x w : ℕ) → (x ≡ i → ⊥) → (x * w + w ≤ i * w) ⊎ (i * w + w ≤ x * w)
apart i x w ne = by (ltb x i) refl
  where
    by : (b : Bool) → ltb x i ≡ b → (x * w + w ≤ i * w) ⊎ (i * w + w ≤ x * w)
    by true e = inl (row_end x i w (ltb-true x i e))
    by false e = inr (row_end i x w (let l : i ≤ x = ltb-false x i e in omega arith))

-- a row that comes back, and the rows beside it
module _ (w : ℕ) (v p : List Float) (i : ℕ) (room : i * w + w ≤ length v) (whole : length p ≡ w) where
  pub row_same : row w (pasted v (i * w) (i * w + w) p) i ≡ p
  row_same =
      ap (λ r. take w r) (drop_at (take (i * w) v) (p ++ drop (i * w + w - i * w) (drop (i * w) v)) (i * w) (length-take-le (i * w) v (omega arith)))
      ∙ take_at p (drop (i * w + w - i * w) (drop (i * w) v)) w whole

  pub length_row_put : length (pasted v (i * w) (i * w + w) p) ≡ length v
  length_row_put = length_pasted v p (i * w) (i * w + w) (omega arith) room (omega arith)

  pub row_other : (x : ℕ) → (x ≡ i → ⊥) → row w (pasted v (i * w) (i * w + w) p) x ≡ row w v x
  row_other x ne =
      let u : List Float = pasted v (i * w) (i * w + w) p in
      let l : (t : List Float) → length (row w t x) ≡ min w (length t - x * w) = λ t. length-take w (drop (x * w) t) ∙ ap (λ k. min w k) (length-drop (x * w) t) in
      ext_get_or nan (row w u x) (row w v x) (l u ∙ ap (λ k. min w (k - x * w)) length_row_put ∙ sym (l v))
      (λ j h.
      let b : j < w = omega (arith, l u) in
      at_row w u x j b
      ∙ ⊎_elim (λ g. at_pasted_before v p (i * w) (i * w + w) (x * w + j) (omega arith) (omega arith))
      (λ g. at_pasted_after v p (i * w) (i * w + w) (x * w + j) (omega arith) room (omega arith) (omega arith)) (apart i x w ne)
      ∙ sym (at_row w v x j b))

-- a lent part that is a row
pub part_row : (w : ℕ) (v : List Float) (i s e : ℕ) → s ≡ i * w → e ≡ s + w → slice s e v ≡ row w v i
part_row w v i s e h g = let x : e - s ≡ w = omega arith in ap (λ n. take n (drop s v)) x ∙ ap (λ n. take w (drop n v)) h

-- a list of the rows
pub line_rows : (n w : ℕ) (v : List Float) (i : ℕ) → i < n → get_or (rows n w v) i [] ≡ row w v i
line_rows n w v i h = get_d_tab n (row w v) [] i h

pub cell_rows : (n w : ℕ) (v : List Float) (i j : ℕ) → i < n → j < w → at (get_or (rows n w v) i []) j ≡ at v (i * w + j)
cell_rows n w v i j h l = ap (λ r. at r j) (line_rows n w v i h) ∙ at_row w v i j l

-- the part from o to the end, as it is lent and as it comes back
pub tail_part : (v : List Float) (o : ℕ) → take (length v - o) (drop o v) ≡ drop o v
tail_part v o = take_all (length v - o) (drop o v) (omega (arith, length-drop o v))

pub tail_back : (v p : List Float) (o : ℕ) → o ≤ length v → length p ≡ length v - o → drop o (pasted v o (length v) p) ≡ p
tail_back v p o h l =
    drop_at (take o v) (p ++ drop (length v - o) (drop o v)) o (length-take-le o v h)
    ∙ ap (λ r. p ++ r) (drop_of_length-le (drop o v) {i = length v - o} (omega (arith, length-drop o v)))
    ∙ append-nil p

-- one row more
pub rows_more : (n w : ℕ) (v : List Float) → rows (n + 1) w v ≡ rows n w v ++ (row w v n ∷ [])
unfolding tab
rows_more n w v = ap (λ k. tab k (row w v)) (add-one n)

-- a row of the first n rows alone
pub row_take : (n w : ℕ) (v : List Float) (i : ℕ) → i < n → n * w ≤ length v → row w (take (n * w) v) i ≡ row w v i
row_take n w v i h room =
    let e : i * w + w ≤ n * w = row_end i n w h in
    let t : length (take (n * w) v) ≡ n * w = length-take-le (n * w) v room in
    let l : length (row w (take (n * w) v) i) ≡ w = length_row w (take (n * w) v) i (omega arith) in
    ext_get_or nan (row w (take (n * w) v) i) (row w v i) (l ∙ sym (length_row w v i (omega arith)))
    (λ j b. at_row w (take (n * w) v) i j (omega arith) ∙ get_or-take (n * w) v (i * w + j) nan (omega arith) ∙ sym (at_row w v i j (omega arith)))

-- all of them
pub rows_take : (n w : ℕ) (v : List Float) → n * w ≤ length v → rows n w (take (n * w) v) ≡ rows n w v
rows_take n w v room = tab_same n _ _ (λ i h. row_take n w v i h room)
