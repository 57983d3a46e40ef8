-- A line is read exactly where its pieces stand: rows of floats, lines, lines that end in `none` or a limit. Assumes nothing.
use Prim.Native.Nat.{ℕ, zero, suc, ◌+◌, ◌≤◌, ◌<◌}
use Rattle.std.proofs.Common.{arith, add-one, add-zero, zero-add, sym, ◌∙◌, subst, ⊎_elim, length-append}
use Rattle.std.specs.Prelude.{◌≡◌, ◌⊎◌, Bool, get_or, set, drop, Float, Option, Some, None, option_and_then}
use Rattle.std.proofs.Math.Path.{refl, ap}
use Rattle.std.proofs.Math.Logic.{inl, inr}
use Rattle.std.proofs.Math.Bool.{true, false}
use mathlib.Core.List.{List, [], ◌∷◌, ◌++◌}
use Rattle.std.proofs.Math.Dec.{eqb}
use Rattle.std.proofs.Math.ListN.{length}
use Rattle.std.proofs.lemmas.List.Edits.{sets, sets-eq}
use Rattle.std.proofs.Math.Seq.{length-sets}
use Rattle.std.specs.Float.{nan}
use borrow.Author.Tests.{eq-eqb, ne_eqb, eqb-true}
use Rattle.text.specs.declared.lines.Row.{Row}
use Rattle.text.specs.declared.lines.Words.TheVariants.{Floats, Limited, Any}
use Rattle.text.specs.Bytes.{bytes}
use Rattle.text.specs.Hex.{digit}
use Rattle.text.specs.Forms.{Form}
use Rattle.text.specs.Lines.{is_at, zeros, pick, word_at, none_at, none_end, row_from, row_at, LineForm, form, without_limit, limited, words_at, with_tail, line_at}
use Rattle.text.specs.Lines as Lines
use Rattle.canonical_laws.specs.Pieces.{Piece, lit, num, non, nums, firsts, floats, limit}
use Rattle.canonical_laws.specs.Positions.{none_some, some_is, is_at_cons, within, blank_within}
use Rattle.canonical_laws.specs.FormLaws.{Lawful}
use Rattle.canonical_laws.specs.Spans.{Spans, word_forth, none_forth}

-- ---- the first elements of a list
module _ {A : Type 0} (d : A) where
  firsts_suc : (n k : ℕ) (x : A) (v : List A) → firsts d (suc k) n (x ∷ v) ≡ firsts d k n v
  firsts_suc zero k x v = refl
  firsts_suc (suc n) k x v = ap (λ (r : List A). get_or v k d ∷ r) (firsts_suc n (suc k) x v)

  pub firsts_front : (xs ys : List A) → firsts d 0 (length xs) (xs ++ ys) ≡ xs
  firsts_front [] ys = refl
  firsts_front (x ∷ xs) ys = ap (λ (r : List A). x ∷ r) (firsts_suc (length xs) 0 x (xs ++ ys) ∙ firsts_front xs ys)

  pub firsts_sets : (xs v : List A) (n : ℕ) → length xs ≡ n → n ≤ length v → firsts d 0 n (sets v 0 xs) ≡ xs
  firsts_sets xs v n e l = rw (← e, sets-eq xs v 0 (omega arith)) (firsts_front xs (drop (0 + length xs) v))

  pub firsts_length : (n k : ℕ) (v : List A) → length (firsts d k n v) ≡ n
  firsts_length zero k v = refl
  firsts_length (suc n) k v = ap suc (firsts_length n (suc k) v)

  pub firsts_all : (v : List A) → firsts d 0 (length v) v ≡ v
  firsts_all [] = refl
  firsts_all (x ∷ v) = ap (λ (r : List A). x ∷ r) (firsts_suc (length v) 0 x v ∙ firsts_all v)

nums_snoc : (xs : List Float) (x : Float) (rest : List Piece) → nums (xs ++ (x ∷ [])) rest ≡ nums xs (num x ∷ rest)
nums_snoc [] x rest = refl
nums_snoc (y ∷ xs) x rest = ap (λ (r : List Piece). num y ∷ r) (nums_snoc xs x rest)

nums_firsts : (n k i : ℕ) (v : List Float) (rest : List Piece) → k + n ≡ i → nums (firsts nan k (suc n) v) rest ≡ nums (firsts nan k n v) (num (get_or v i nan) ∷ rest)
nums_firsts zero k i v rest e = let z : k ≡ i = omega arith in rw z
nums_firsts (suc n) k i v rest e = ap (λ (r : List Piece). num (get_or v k nan) ∷ r) (nums_firsts n (suc k) i v rest (omega arith))

nums_more : (n : ℕ) (v : List Float) (rest : List Piece) → nums (floats (n + 1) v) rest ≡ nums (floats n v) (num (get_or v n nan) ∷ rest)
nums_more n v rest = ap (λ (m : ℕ). nums (floats m v) rest) (add-one n) ∙ nums_firsts n 0 n v rest (omega arith)

-- ---- answers of a line

abbrev pub good : ℕ → ℕ → List Float → Option Float → Row
good j n v l = record { at = j; count = n; v = v; limit = l }

-- the last float as a limit
abbrev pub last_of : Option Float → List Float → Option Float
last_of l [] = l
last_of l (x ∷ xs) = last_of (Some x) xs

last_firsts : (n k : ℕ) (l : Option Float) (v : List Float) → last_of l (firsts nan k (suc n) v) ≡ Some (get_or v (k + n) nan)
last_firsts zero k l v = rw add-zero
last_firsts (suc n) k l v = last_firsts n (suc k) (Some (get_or v k nan)) v ∙ let e : suc k + n ≡ k + suc n = omega arith in rw e

last_snoc : (xs : List Float) (x : Float) (l : Option Float) → last_of l (xs ++ (x ∷ [])) ≡ Some x
last_snoc [] x l = refl
last_snoc (y ∷ xs) x l = last_snoc xs x (Some y)

pub no_ok : {A : Type 0} → false ≡ true → A
no_ok e = let z : ◌≡◌ {A = ℕ} 0 1 = cc in absurd (omega arith)

taken : (b : Bool) (o : Option Row) (r : Row) → pick b o None ≡ Some r → b ≡ true
taken true o r e = refl
taken false o r e = none_some e

shift : (k n : ℕ) → k + 1 + n ≡ k + suc n
shift k n = omega arith

-- `none` begins with no digit
no_digit : (b : ℕ) → b ≡ 110 → digit b < 16 → ⊥
unfolding digit
no_digit b e h = let z : digit 110 < 16 = rw e at h in omega arith

module _ (f : Form) (s : List ℕ) where
  row_stop : (n : ℕ) (r : Row) → word_at f s r.at ≡ None → row_from f s n r ≡ r
  unfolding row_from
  row_stop zero r e = refl
  row_stop (suc n) r e = rw e

  -- ---- what a line is whose row is known

  line_is : (at j n : ℕ) (v : List Float) (l : Option Float) (head tail : List ℕ) → is_at s at head ≡ true → row_at f s (at + length head) ≡ good j n v l → is_at s j tail ≡ true
      → line_at f s at (form head (Floats n) tail) ≡ Some (good (j + length tail) n v l)
  unfolding line_at words_at Lines.floats with_tail
  line_is at j n v l head tail a r i = rw (a, r, eq-eqb n n refl, i)

  any_is : (at j n : ℕ) (v : List Float) (l : Option Float) (head tail : List ℕ) → is_at s at head ≡ true → row_at f s (at + length head) ≡ good j n v l → is_at s j tail ≡ true
      → line_at f s at (form head Any tail) ≡ Some (good (j + length tail) n v l)
  unfolding line_at words_at with_tail
  any_is at j n v l head tail a r i = rw (a, r, i)

  none_is : (at j n : ℕ) (v : List Float) (l : Option Float) (head tail : List ℕ) → is_at s at head ≡ true → row_at f s (at + length head) ≡ good j n v l → none_at f s j ≡ true
      → is_at s (none_end f s j) tail ≡ true → line_at f s at (form head (Limited n) tail) ≡ Some (good (none_end f s j + length tail) n v None)
  unfolding line_at words_at limited without_limit with_tail
  none_is at j n v l head tail a r i o = rw (a, r, eq-eqb n n refl, i, o)

  limit_is : (at j n : ℕ) (v : List Float) (l : Option Float) (head tail : List ℕ) → is_at s at head ≡ true → row_at f s (at + length head) ≡ good j (n + 1) v l → is_at s j tail ≡ true
      → line_at f s at (form head (Limited n) tail) ≡ Some (good (j + length tail) (n + 1) v l)
  unfolding line_at words_at limited with_tail
  limit_is at j n v l head tail a r i = rw (a, r, ne_eqb (n + 1) n (λ e. omega (arith, e)), eq-eqb (n + 1) (n + 1) refl, i)

  -- ---- what stands there is read

  -- no float begins where the rest does, and the text has not ended there
  abbrev Stops : List Piece → ℕ → Type 0
  Stops rest e = (j : ℕ) → Spans f s j rest e → (word_at f s j ≡ None) × (j ≤ length s)

  row_back : (xs : List Float) (rest : List Piece) (n k at e : ℕ) (v : List Float) (l : Option Float) → Stops rest e → length xs ≤ n → Spans f s at (nums xs rest) e
      → (j : ℕ) × (row_from f s n (good at k v l) ≡ good j (k + length xs) (sets v k xs) (last_of l xs)) × (Spans f s j rest e)
  unfolding row_from
  row_back [] rest n k at e v l w b h = (at, row_stop n (good at k v l) (w at h).0 ∙ ap (λ (m : ℕ). good at m v l) (sym (add-zero k)), h)
  row_back (x ∷ xs) rest zero k at e v l w b h = absurd (omega arith)
  row_back (x ∷ xs) rest (suc n) k at e v l w b h =
      let r = row_back xs rest n (k + 1) h.0 e (set v k x) (Some x) w (omega arith) h.2 in (
        r.0,
        rw h.1
            (r.1
            ∙ ap (λ (m : ℕ). good r.0 (k + 1 + length xs) (sets (set v k x) m xs) (last_of (Some x) xs)) (add-one k)
            ∙ ap (λ (m : ℕ). good r.0 m (sets v k (x ∷ xs)) (last_of (Some x) xs)) (shift k (length xs))),
        r.2,
      )

  module _ (L : Lawful f) where
    -- each float takes a byte or more
    words_long : (xs : List Float) (rest : List Piece) (at e : ℕ) → Spans f s at (nums xs rest) e → (j : ℕ) × (at + length xs ≤ j) × (Spans f s j rest e)
    words_long [] rest at e h = (at, omega arith, h)
    words_long (x ∷ xs) rest at e h =
        let r = words_long xs rest h.0 e h.2 in
        (r.0, omega (arith, r.1, L.skips s (at + 1), L.goes s _ h.0 x (word_forth f s at h.0 x h.1).1), r.2)

    all_back : (xs : List Float) (rest : List Piece) (at e : ℕ) → Stops rest e → Spans f s at (nums xs rest) e
        → (j : ℕ) × (row_at f s at ≡ good j (length xs) (sets zeros 0 xs) (last_of None xs)) × (Spans f s j rest e)
    unfolding row_at
    all_back xs rest at e w h =
        let m = words_long xs rest at e h in
        let r = row_back xs rest (length s) 0 at e zeros None w (omega (arith, m.1, (w m.0 m.2).1)) h in
        (r.0, r.1 ∙ ap (λ (n : ℕ). good r.0 n (sets zeros 0 xs) (last_of None xs)) (zero-add (length xs)), r.2)

    not_word : (at : ℕ) → (get_or s at 0 ≡ 32 → ⊥) → word_at f s at ≡ None
    unfolding word_at
    not_word at h = rw (ne_eqb _ _ h)

    tail_stops : (c : ℕ) (t : List ℕ) (rest : List Piece) (e : ℕ) → (c ≡ 32 → ⊥) → Stops (lit (c ∷ t) ∷ rest) e
    tail_stops c t rest e n j h = (not_word j (λ b. n (sym (is_at_cons s j c t h.1.0).0 ∙ b)), omega (arith, within s j (c ∷ t) h.1.0))

    -- a float is no `none`
    none_word : (at : ℕ) → none_at f s at ≡ true → word_at f s at ≡ None
    none_word at q = go (word_at f s at) refl
      where
        go : (w : Option (Float × ℕ)) → word_at f s at ≡ w → word_at f s at ≡ None
        go None e = e
        go (Some (x, j)) e =
            let i = f.skip s (at + 1) in
            let d = L.begins s i j x (word_forth f s at j x e).1 in
            let b : get_or s i 0 ≡ 110 = (is_at_cons s i 110 (bytes "one") (none_forth f s at q).1).0 in
            absurd (no_digit (get_or s i 0) b d)

    none_stops : (rest : List Piece) (e : ℕ) → Stops (non ∷ rest) e
    none_stops rest e j h = (none_word j h.1.0, omega (arith, blank_within s j (none_forth f s j h.1.0).0))

    -- a row behind its head, before a tail that begins with no blank
    head_back : (xs : List Float) (at e : ℕ) (head : List ℕ) (c : ℕ) (t : List ℕ) (rest : List Piece) → (c ≡ 32 → ⊥) → Spans f s at (lit head ∷ nums xs (lit (c ∷ t) ∷ rest)) e
        → (j : ℕ) × (row_at f s (at + length head) ≡ good j (length xs) (sets zeros 0 xs) (last_of None xs)) × (is_at s j (c ∷ t) ≡ true) × (Spans f s (j + suc (length t)) rest e)
    head_back xs at e head c t rest n h =
        let r = all_back xs (lit (c ∷ t) ∷ rest) h.0 e (tail_stops c t rest e n) h.2 in
        let q = r.2 in
        (r.0, ap (λ (i : ℕ). row_at f s i) (sym h.1.1) ∙ r.1, q.1.0, subst (λ (i : ℕ). Spans f s i rest e) q.1.1 q.2)

    pub line_back : (xs : List Float) (at e : ℕ) (head : List ℕ) (c : ℕ) (t : List ℕ) (rest : List Piece) → (c ≡ 32 → ⊥) → Spans f s at (lit head ∷ nums xs (lit (c ∷ t) ∷ rest)) e
        → (j : ℕ) × (line_at f s at (form head (Floats (length xs)) (c ∷ t)) ≡ Some (good j (length xs) (sets zeros 0 xs) (last_of None xs))) × (Spans f s j rest e)
    line_back xs at e head c t rest n h =
        let r = head_back xs at e head c t rest n h in
        (r.0 + suc (length t), line_is at r.0 (length xs) (sets zeros 0 xs) (last_of None xs) head (c ∷ t) h.1.0 r.1 r.2, r.3)

    pub any_back : (xs : List Float) (at e : ℕ) (head : List ℕ) (c : ℕ) (t : List ℕ) (rest : List Piece) → (c ≡ 32 → ⊥) → Spans f s at (lit head ∷ nums xs (lit (c ∷ t) ∷ rest)) e
        → (j : ℕ) × (line_at f s at (form head Any (c ∷ t)) ≡ Some (good j (length xs) (sets zeros 0 xs) (last_of None xs))) × (Spans f s j rest e)
    any_back xs at e head c t rest n h =
        let r = head_back xs at e head c t rest n h in
        (r.0 + suc (length t), any_is at r.0 (length xs) (sets zeros 0 xs) (last_of None xs) head (c ∷ t) h.1.0 r.1 r.2, r.3)

    pub limit_none : (xs : List Float) (at e : ℕ) (head tail : List ℕ) (rest : List Piece) → Spans f s at (lit head ∷ nums xs (non ∷ lit tail ∷ rest)) e
        → (j : ℕ) × (line_at f s at (form head (Limited (length xs)) tail) ≡ Some (good j (length xs) (sets zeros 0 xs) None)) × (Spans f s j rest e)
    limit_none xs at e head tail rest h =
        let r = all_back xs (non ∷ lit tail ∷ rest) h.0 e (none_stops (lit tail ∷ rest) e) h.2 in
        let q = r.2 in
        let t = q.2 in
        let i : is_at s (none_end f s r.0) tail ≡ true = ap (λ (k : ℕ). is_at s k tail) (sym q.1.1) ∙ t.1.0 in
        let y : t.0 ≡ none_end f s r.0 + length tail = t.1.1 ∙ ap (λ (k : ℕ). k + length tail) q.1.1 in (
          none_end f s r.0 + length tail,
          none_is at r.0 (length xs) (sets zeros 0 xs) (last_of None xs) head tail h.1.0 (ap (λ (i : ℕ). row_at f s i) (sym h.1.1) ∙ r.1) q.1.0 i,
          subst (λ (i : ℕ). Spans f s i rest e) y t.2,
        )

    pub limit_at_law : (xs : List Float) (x : Float) (at e : ℕ) (head : List ℕ) (c : ℕ) (t : List ℕ) (rest : List Piece) → (c ≡ 32 → ⊥) → Spans f s at (lit head ∷ nums xs (num x ∷ lit (c ∷ t) ∷ rest)) e
        → (j : ℕ) × (line_at f s at (form head (Limited (length xs)) (c ∷ t)) ≡ Some (good j (length xs + 1) (sets zeros 0 (xs ++ (x ∷ []))) (Some x))) × (Spans f s j rest e)
    limit_at_law xs x at e head c t rest n h =
        let ys = xs ++ (x ∷ []) in
        let r = head_back ys at e head c t rest n (subst (λ (ps : List Piece). Spans f s at (lit head ∷ ps) e) (sym (nums_snoc xs x (lit (c ∷ t) ∷ rest))) h) in
        let w : row_at f s (at + length head) ≡ good r.0 (length xs + 1) (sets zeros 0 ys) (Some x) =
        r.1 ∙ ap (λ (m : ℕ). good r.0 m (sets zeros 0 ys) (last_of None ys)) (length-append xs (x ∷ [])) ∙ ap (λ (l : Option Float). good r.0 (length xs + 1) (sets zeros 0 ys) l) (last_snoc xs x None) in
        (r.0 + suc (length t), limit_is at r.0 (length xs) (sets zeros 0 ys) (Some x) head (c ∷ t) h.1.0 w r.2, r.3)

  -- ---- what is read stands there

  abbrev RowRead : ℕ → ℕ → ℕ → List Float → Option Float → Type 0
  RowRead n k at v l =
      (xs : List Float)
      × (j : ℕ)
      × (row_from f s n (good at k v l) ≡ good j (k + length xs) (sets v k xs) (last_of l xs))
      × ((rest : List Piece) (e : ℕ) → Spans f s j rest e → Spans f s at (nums xs rest) e)

  row_forth : (n k at : ℕ) (v : List Float) (l : Option Float) → RowRead n k at v l
  unfolding row_from
  row_forth zero k at v l = ([], at, ap (λ (m : ℕ). good at m v l) (sym (add-zero k)), λ rest e t. t)
  row_forth (suc n) k at v l = go (λ k at v l. row_forth n k at v l) (word_at f s at) refl
    where
      go : ((k at : ℕ) (v : List Float) (l : Option Float) → RowRead n k at v l) → (w : Option (Float × ℕ)) → word_at f s at ≡ w → RowRead (suc n) k at v l
      go ih (Some (x, i)) q =
          let r = ih (k + 1) i (set v k x) (Some x) in
          let xs = r.0 in (
            x ∷ xs,
            r.1,
            rw q
                (r.2
                ∙ ap (λ (m : ℕ). good r.1 (k + 1 + length xs) (sets (set v k x) m xs) (last_of (Some x) xs)) (add-one k)
                ∙ ap (λ (m : ℕ). good r.1 m (sets v k (x ∷ xs)) (last_of (Some x) xs)) (shift k (length xs))),
            λ rest e t. (i, q, r.3 rest e t),
          )
      go ih None q = ([], at, rw q (ap (λ (m : ℕ). good at m v l) (sym (add-zero k))), λ rest e t. t)

  -- the floats behind a position
  abbrev AllRead : ℕ → Type 0
  AllRead at =
      (xs : List Float)
      × (j : ℕ)
      × (row_at f s at ≡ good j (length xs) (sets zeros 0 xs) (last_of None xs))
      × ((rest : List Piece) (e : ℕ) → Spans f s j rest e → Spans f s at (nums xs rest) e)

  all_forth : (at : ℕ) → AllRead at
  unfolding row_at
  all_forth at = let r = row_forth (length s) 0 at zeros None in (r.0, r.1, r.2 ∙ ap (λ (n : ℕ). good r.1 n (sets zeros 0 r.0) (last_of None r.0)) (zero-add (length r.0)), r.3)

  -- a line's answer, as far as what follows needs it
  abbrev pub LineRead : ℕ → ℕ → List ℕ → Row → List Piece → Type 0
  LineRead n at head r end = (rest : List Piece) (e : ℕ) → Spans f s r.at rest e → Spans f s at (lit head ∷ nums (floats n r.v) (end ++ rest)) e

  -- what a right line begins with, and what it ends with
  begins : (at : ℕ) (l : LineForm) (q : Row) → line_at f s at l ≡ Some q → (is_at s at l.head ≡ true) × (option_and_then (with_tail s l.tail) (words_at f s (at + length l.head) l.words) ≡ Some q)
  unfolding line_at
  begins at l q h = let a : is_at s at l.head ≡ true = taken _ _ _ h in (a, rw a at h)

  ends : (tail : List ℕ) (o : Option Row) (q : Row) → option_and_then (with_tail s tail) o ≡ Some q → (r : Row) × (o ≡ Some r) × (is_at s r.at tail ≡ true)
  unfolding with_tail
  ends tail None q h = none_some h
  ends tail (Some r) q h = (r, refl, taken _ _ _ h)

  -- n floats between them
  line_with_law : (n at : ℕ) (head tail : List ℕ) (r q : Row) → row_at f s (at + length head) ≡ r → line_at f s at (form head (Floats n) tail) ≡ Some q → (is_at s at head ≡ true) × (r.count ≡ n) × (is_at s r.at tail ≡ true)
  unfolding words_at Lines.floats
  line_with_law n at head tail r q e h =
      let g = begins at (form head (Floats n) tail) q h in
      let k = ends tail (pick (eqb r.count n) (Some r) None) q (rw e at g.1) in
      let c : eqb r.count n ≡ true = taken _ _ _ k.1 in
      let m : r ≡ k.0 = some_is (ap (λ (b : Bool). pick b (Some r) None) (sym c) ∙ k.1) in
      (g.0, eqb-true _ _ c, ap (λ (p : Row). is_at s p.at tail) m ∙ k.2)

  any_with : (at : ℕ) (head tail : List ℕ) (r q : Row) → row_at f s (at + length head) ≡ r → line_at f s at (form head Any tail) ≡ Some q → (is_at s at head ≡ true) × (is_at s r.at tail ≡ true)
  unfolding words_at
  any_with at head tail r q e h =
      let g = begins at (form head Any tail) q h in
      let k = ends tail (Some r) q (rw e at g.1) in
      let m : r ≡ k.0 = some_is k.1 in
      (g.0, ap (λ (p : Row). is_at s p.at tail) m ∙ k.2)

  pub line_forth : (n at : ℕ) (head tail : List ℕ) (q : Row) → n ≤ 9 → line_at f s at (form head (Floats n) tail) ≡ Some q → LineRead n at head q (lit tail ∷ [])
  line_forth n at head tail q l h = go (all_forth (at + length head))
    where
      go : AllRead (at + length head) → LineRead n at head q (lit tail ∷ [])
      go r =
          let xs = r.0 in
          let v = sets zeros 0 xs in
          let g = line_with_law n at head tail (good r.1 (length xs) v (last_of None xs)) q r.2 h in
          let w : floats n v ≡ xs = firsts_sets nan xs zeros n g.1 l in
          let k : row_at f s (at + length head) ≡ good r.1 n v (last_of None xs) = r.2 ∙ ap (λ (m : ℕ). good r.1 m v (last_of None xs)) g.1 in
          let e : good (r.1 + length tail) n v (last_of None xs) ≡ q = some_is (sym (line_is at r.1 n v (last_of None xs) head tail g.0 k g.2) ∙ h) in
          rw (← e, w)
          (λ rest e t. (at + length head, (g.0, refl), r.3 (lit tail ∷ rest) e (r.1 + length tail, (g.2, refl), t)))

  -- any number of floats, of which nine are kept
  pub any_forth : (at : ℕ) (head tail : List ℕ) (q : Row) → line_at f s at (form head Any tail) ≡ Some q → q.count ≤ 9 → LineRead q.count at head q (lit tail ∷ [])
  any_forth at head tail q h few = go (all_forth (at + length head))
    where
      go : AllRead (at + length head) → LineRead q.count at head q (lit tail ∷ [])
      go r =
          let xs = r.0 in
          let v = sets zeros 0 xs in
          let g = any_with at head tail (good r.1 (length xs) v (last_of None xs)) q r.2 h in
          let e : good (r.1 + length tail) (length xs) v (last_of None xs) ≡ q = some_is (sym (any_is at r.1 (length xs) v (last_of None xs) head tail g.0 r.2 g.1) ∙ h) in
          let l : length xs ≤ 9 = rw (← e) at few in
          let w : floats (length xs) v ≡ xs = firsts_sets nan xs zeros (length xs) refl l in
          rw (← e, w) (λ rest e t. (at + length head, (g.0, refl), r.3 (lit tail ∷ rest) e (r.1 + length tail, (g.1, refl), t)))

  -- what a right line's row holds
  pub any_row : (at : ℕ) (head tail : List ℕ) (q : Row) → line_at f s at (form head Any tail) ≡ Some q → (xs : List Float) × (q.count ≡ length xs) × (q.v ≡ sets zeros 0 xs)
  any_row at head tail q h =
      let r = all_forth (at + length head) in
      let xs = r.0 in
      let g = any_with at head tail (good r.1 (length xs) (sets zeros 0 xs) (last_of None xs)) q r.2 h in
      let e = some_is (sym h ∙ any_is at r.1 (length xs) (sets zeros 0 xs) (last_of None xs) head tail g.0 r.2 g.1) in
      (xs, ap (λ (q : Row). q.count) e, ap (λ (q : Row). q.v) e)

  pub line_nine : (n at : ℕ) (head tail : List ℕ) (q : Row) → line_at f s at (form head (Floats n) tail) ≡ Some q → length q.v ≡ 9
  line_nine n at head tail q h =
      let r = all_forth (at + length head) in
      let xs = r.0 in
      let v = sets zeros 0 xs in
      let g = line_with_law n at head tail (good r.1 (length xs) v (last_of None xs)) q r.2 h in
      let k : row_at f s (at + length head) ≡ good r.1 n v (last_of None xs) = r.2 ∙ ap (λ (m : ℕ). good r.1 m v (last_of None xs)) g.1 in
      ap (λ (q : Row). length q.v) (some_is (sym h ∙ line_is at r.1 n v (last_of None xs) head tail g.0 k g.2)) ∙ length-sets zeros 0 xs

  -- n floats and `none`, or one float more
  limit_with : (n at : ℕ) (head tail : List ℕ) (r q : Row) → row_at f s (at + length head) ≡ r → line_at f s at (form head (Limited n) tail) ≡ Some q
      → (is_at s at head ≡ true) × (((r.count ≡ n) × (none_at f s r.at ≡ true) × (is_at s (none_end f s r.at) tail ≡ true)) ⊎ ((r.count ≡ n + 1) × (is_at s r.at tail ≡ true)))
  unfolding words_at limited without_limit
  limit_with n at head tail r q e h =
      let g = begins at (form head (Limited n) tail) q h in
      (g.0, go (eqb r.count n) refl (ends tail (limited f s n r) q (rw e at g.1)))
    where
      go : (b : Bool) → eqb r.count n ≡ b → (p : Row) × (limited f s n r ≡ Some p) × (is_at s p.at tail ≡ true)
          → ((r.count ≡ n) × (none_at f s r.at ≡ true) × (is_at s (none_end f s r.at) tail ≡ true)) ⊎ ((r.count ≡ n + 1) × (is_at s r.at tail ≡ true))
      go true b k =
          let k' = rw b at k.1 in
          let i : none_at f s r.at ≡ true = taken _ _ _ k' in
          let m : good (none_end f s r.at) r.count r.v None ≡ k.0 = some_is (rw i at k') in
          inl (eqb-true _ _ b, i, ap (λ (p : Row). is_at s p.at tail) m ∙ k.2)
      go false b k =
          let k' = rw b at k.1 in
          let i : eqb r.count (n + 1) ≡ true = taken _ _ _ k' in
          let m : r ≡ k.0 = some_is (rw i at k') in
          inr (eqb-true _ _ i, ap (λ (p : Row). is_at s p.at tail) m ∙ k.2)

  abbrev pub LimitRead : ℕ → ℕ → List ℕ → List ℕ → Row → Type 0
  LimitRead n at head tail q = LineRead n at head q (limit q.limit ∷ lit tail ∷ [])

  pub limit_forth : (n at : ℕ) (head tail : List ℕ) (q : Row) → n < 9 → line_at f s at (form head (Limited n) tail) ≡ Some q → LimitRead n at head tail q
  limit_forth n at head tail q l h = by (all_forth (at + length head))
    where
      none : (r : AllRead (at + length head)) → is_at s at head ≡ true → (length r.0 ≡ n) × (none_at f s r.1 ≡ true) × (is_at s (none_end f s r.1) tail ≡ true) → LimitRead n at head tail q
      none r a g =
          let v = sets zeros 0 r.0 in
          let w : floats n v ≡ r.0 = firsts_sets nan r.0 zeros n g.0 (omega arith) in
          let k : row_at f s (at + length head) ≡ good r.1 n v (last_of None r.0) = r.2 ∙ ap (λ (m : ℕ). good r.1 m v (last_of None r.0)) g.0 in
          let e : good (none_end f s r.1 + length tail) n v None ≡ q = some_is (sym (none_is at r.1 n v (last_of None r.0) head tail a k g.1 g.2) ∙ h) in
          rw (← e, w)
          (λ rest e t. (at + length head, (a, refl), r.3 (non ∷ lit tail ∷ rest) e (none_end f s r.1, (g.1, refl), (none_end f s r.1 + length tail, (g.2, refl), t))))

      one : (r : AllRead (at + length head)) → is_at s at head ≡ true → (length r.0 ≡ n + 1) × (is_at s r.1 tail ≡ true) → LimitRead n at head tail q
      one r a g =
          let v = sets zeros 0 r.0 in
          let w : floats (n + 1) v ≡ r.0 = firsts_sets nan r.0 zeros (n + 1) g.0 (omega arith) in
          let m : last_of None r.0 ≡ Some (get_or v n nan) = ap (λ (xs : List Float). last_of None xs) (sym w) ∙ ap (λ (i : ℕ). last_of None (floats i v)) (add-one n) ∙ last_firsts n 0 None v ∙ ap (λ (i : ℕ). Some (get_or v i nan)) (zero-add n) in
          let k : row_at f s (at + length head) ≡ good r.1 (n + 1) v (Some (get_or v n nan)) = r.2 ∙ ap (λ (i : ℕ). good r.1 i v (last_of None r.0)) g.0 ∙ ap (λ (x : Option Float). good r.1 (n + 1) v x) m in
          let e : good (r.1 + length tail) (n + 1) v (Some (get_or v n nan)) ≡ q = some_is (sym (limit_is at r.1 n v (Some (get_or v n nan)) head tail a k g.1) ∙ h) in
          rw (← e)
          (λ rest e t.
          let z = r.3 (lit tail ∷ rest) e (r.1 + length tail, (g.1, refl), t) in
          (at + length head, (a, refl), subst (λ (ps : List Piece). Spans f s (at + length head) ps e) (ap (λ (xs : List Float). nums xs (lit tail ∷ rest)) (sym w) ∙ nums_more n v (lit tail ∷ rest)) z))

      by : AllRead (at + length head) → LimitRead n at head tail q
      by r =
          let g = limit_with n at head tail (good r.1 (length r.0) (sets zeros 0 r.0) (last_of None r.0)) q r.2 h in
          ⊎_elim (λ k. none r g.0 k) (λ k. one r g.0 k) g.1
