-- What a loop that stores place after place has done so far, whatever the places hold: numbers of a list, or rows. Assumes nothing.
use Rattle.std.specs.Prelude.{ℕ, ◌+◌, ◌<◌, ◌≤◌, ◌≡◌, refl, Bool, true, false, List, eqb, ltb, length, set, Float}
use Rattle.std.proofs.Common.{arith, sym, subst, ◌∙◌, length-set, get_or-set_same, get_or-set_other, eqb-true, ltb-true, ltb-false}
use Rattle.std.specs.Float.{nan}
use Rattle.std.proofs.lemmas.Bool.{eqb-false}
use Rattle.common.specs.Lists.{at}
use Rattle.normal_equations.specs.Tab.{tab}
use Rattle.normal_equations.specs.TabLaws.{tab_of}
use Rattle.normal_equations.specs.Rows.{row}

-- the places from a up to e hold what F says, the others what they held; g before, h after
pub record Filled {E : Type 0} (F : ℕ → E) (a e : ℕ) (g h : ℕ → E) : Type 0 where
  pub below : (x : ℕ) → x < a → h x ≡ g x
  pub done : (x : ℕ) → a ≤ x → x < e → h x ≡ F x
  pub above : (x : ℕ) → e ≤ x → h x ≡ g x

module _ {E : Type 0} (F : ℕ → E) (a : ℕ) where
  pub filled_none : (g : ℕ → E) → Filled F a a g g
  filled_none g = record { below = λ x l. refl; done = λ x l m. absurd (omega arith); above = λ x l. refl }

  -- one place more
  pub filled_more : (i : ℕ) (g h u : ℕ → E) → a ≤ i → Filled F a i g h → u i ≡ F i → ((x : ℕ) → (x ≡ i → ⊥) → u x ≡ h x) → Filled F a (i + 1) g u
  filled_more i g h u l f own others =
      record {
        below = λ x b. others x (λ e. omega arith) ∙ f.below x b;
        done = λ x b c. by x b c (eqb x i) refl;
        above = λ x b. others x (λ e. omega arith) ∙ f.above x (omega arith);
      }
    where
      below_ne : (x : ℕ) → x < i + 1 → (x ≡ i → ⊥) → (t : Bool) → ltb x i ≡ t → x < i
      below_ne x c ne true e = ltb-true x i e
      below_ne x c ne false e = let l : i ≤ x = ltb-false x i e in absurd (ne (omega arith))

      by : (x : ℕ) → a ≤ x → x < i + 1 → (t : Bool) → eqb x i ≡ t → u x ≡ F x
      by x b c true e = let q : x ≡ i = eqb-true x i e in subst (λ y. u y ≡ F y) (sym q) own
      by x b c false e = let ne : x ≡ i → ⊥ = eqb-false x i e in others x ne ∙ f.done x b (below_ne x c ne (ltb x i) refl)

  -- one part after the other
  pub filled_join : (b e : ℕ) (g h u : ℕ → E) → a ≤ b → b ≤ e → Filled F a b g h → Filled F b e h u → Filled F a e g u
  filled_join b e g h u l m p q =
      record {
        below = λ x c. q.below x (omega arith) ∙ p.below x c;
        done = λ x c d. by x c d (ltb x b) refl;
        above = λ x c. q.above x c ∙ p.above x (omega arith);
      }
    where
      by : (x : ℕ) → a ≤ x → x < e → (t : Bool) → ltb x b ≡ t → u x ≡ F x
      by x c d true w = let z : x < b = ltb-true x b w in q.below x z ∙ p.done x c z
      by x c d false w = q.done x (ltb-false x b w) d

-- a store of what F says
pub filled_set : (F : ℕ → Float) (a i : ℕ) (v u : List Float) (y : Float) → a ≤ i → i < length u → Filled F a i (at v) (at u) → y ≡ F i
    → Filled F a (i + 1) (at v) (at (set u i y))
filled_set F a i v u y l h f e =
    filled_more F a i (at v) (at u) (at (set u i y)) l f (get_or-set_same u i y nan h ∙ e) (λ x ne. get_or-set_other u i x y nan ne)

-- four stores
pub filled_four : (F : ℕ → Float) (d : ℕ) (v : List Float) (p q r s : Float) → d + 4 ≤ length v → p ≡ F d → q ≡ F (d + 1) → r ≡ F (d + 2) → s ≡ F (d + 3)
    → Filled F d (d + 4) (at v) (at (set (set (set (set v d p) (d + 1) q) (d + 2) r) (d + 3) s))
filled_four F d v p q r s h e0 e1 e2 e3 =
    let two : d + 1 + 1 ≡ d + 2 = omega arith in
    let three : d + 2 + 1 ≡ d + 3 = omega arith in
    let four : d + 3 + 1 ≡ d + 4 = omega arith in
    let u0 : List Float = set v d p in
    let u1 : List Float = set u0 (d + 1) q in
    let u2 : List Float = set u1 (d + 2) r in
    let l0 : length u0 ≡ length v = length-set v d p in
    let l1 : length u1 ≡ length v = length-set u0 (d + 1) q ∙ l0 in
    let l2 : length u2 ≡ length v = length-set u1 (d + 2) r ∙ l1 in
    let f0 : Filled F d (d + 1) (at v) (at u0) = filled_set F d d v v p (omega arith) (omega arith) (filled_none F d (at v)) e0 in
    let f1 : Filled F d (d + 2) (at v) (at u1) = subst (λ n. Filled F d n (at v) (at u1)) two (filled_set F d (d + 1) v u0 q (omega arith) (omega arith) f0 e1) in
    let f2 : Filled F d (d + 3) (at v) (at u2) = subst (λ n. Filled F d n (at v) (at u2)) three (filled_set F d (d + 2) v u1 r (omega arith) (omega arith) f1 e2) in
    subst (λ n. Filled F d n (at v) (at (set u2 (d + 3) s))) four (filled_set F d (d + 3) v u2 s (omega arith) (omega arith) f2 e3)

-- all of a list, where the places below a are as F says already
pub filled_all : (F : ℕ → Float) (a : ℕ) (v u : List Float) → length u ≡ length v → Filled F a (length v) (at v) (at u) → ((x : ℕ) → x < a → at v x ≡ F x)
    → u ≡ tab (length v) F
filled_all F a v u e f h = tab_of (length v) F nan u e (λ x l. by x l (ltb x a) refl)
  where
    by : (x : ℕ) → x < length v → (t : Bool) → ltb x a ≡ t → at u x ≡ F x
    by x l true w = let z : x < a = ltb-true x a w in f.below x z ∙ h x z
    by x l false w = f.done x (ltb-false x a w) l

-- a store into one row: row i is y, the others are as they were
pub record OneRow {E : Type 0} (i : ℕ) (y : E) (g h : ℕ → E) : Type 0 where
  pub own : h i ≡ y
  pub others : (x : ℕ) → (x ≡ i → ⊥) → h x ≡ g x

pub one_set : (v : List Float) (i : ℕ) (y : Float) → i < length v → OneRow i y (at v) (at (set v i y))
one_set v i y h = record { own = get_or-set_same v i y nan h; others = λ x ne. get_or-set_other v i x y nan ne }

-- a store into one row, the width and the row by other names
pub one_row : (n w : ℕ) (x y v u : List Float) (i : ℕ) → w ≡ n → x ≡ y → OneRow i x (row w v) (row w u) → OneRow i y (row n v) (row n u)
one_row n w x y v u i e f o = subst (λ k. OneRow i y (row k v) (row k u)) e (subst (λ z. OneRow i z (row w v) (row w u)) f o)
