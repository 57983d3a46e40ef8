-- The links of the tiles that are left: how one is taken out, and those at the start. Assumes nothing.
use Rattle.std.specs.Prelude.{ℕ, ◌+◌, ◌-◌, ◌<◌, ◌≤◌, ◌≡◌, refl, Bool, true, false, not, ◌||◌, List, [], ◌∷◌, ltb, length, get_or, set, replicate}
use Rattle.std.proofs.Common.{sym, ◌∙◌, arith, length-set, get_or-set_other, eqb-true, ltb-true, ltb-false, eq-eqb, ne_eqb}
use Rattle.std.proofs.Math.Numerals.{add-one}
use Rattle.std.proofs.Math.Dec.{eqb}
use Rattle.std.proofs.Math.Seq.{get_or-set_same}
use Rattle.std.proofs.lemmas.Bool.{eqb-false, not-false}
use Rattle.tile_order.specs.Below.{any}
use Rattle.tile_order.specs.AnyLaws.{any_same, any_fails, any_not}
use Rattle.tile_order.specs.Search.{seen}
use Rattle.tile_order.specs.Inner.{Link, Links, Stands}
use Rattle.tile_order.specs.OrderLaws.{zeros}
use Rattle.tile_order.specs.ProgressLaws.{never}

-- ---- a tile x put into place k
module _ (p : List ℕ) (k x : ℕ) (room : k < length p) where
  seen_more : (z : ℕ) → seen (set p k x) (k + 1) z ≡ eqb x z || seen p k z
  unfolding any
  seen_more z =
      rw (
        add-one k,
        get_or-set_same p k x 0 room,
        any_same (λ i. eqb (get_or (set p k x) i 0) z) (λ i. eqb (get_or p i 0) z) k (λ i l. rw (get_or-set_other p k i x 0 (λ e. omega arith))),
      )

  seen_own : seen (set p k x) (k + 1) x ≡ true
  seen_own = rw (seen_more x, eq-eqb x x refl)

  seen_other : (z : ℕ) → (z ≡ x → ⊥) → seen (set p k x) (k + 1) z ≡ seen p k z
  seen_other z ne = rw (seen_more z, ne_eqb x z (λ e. ne (sym e)))

  seen_still : (z : ℕ) → seen p k z ≡ true → seen (set p k x) (k + 1) z ≡ true
  seen_still z e = by (eqb z x) refl
    where
      by : (q : Bool) → eqb z x ≡ q → seen (set p k x) (k + 1) z ≡ true
      by true f = rw (eqb-true z x f) seen_own
      by false f = seen_other z (eqb-false z x f) ∙ e

-- ---- the tile x that place i links to, taken out
module _ (n : ℕ) (p : List ℕ) (k i : ℕ) (a : List ℕ) (x : ℕ) (r : Links n p k a) (s : Stands n p k i) (is : x ≡ get_or a i 0) (in_table : x < n) (few : n ≤ 10) (room : k < length p) where
  here : Link n p k i x
  here = rw is (r.link i s)

  free : seen p k x ≡ false
  free = here.free in_table

  -- the place after a tile that is left has a link
  pub next_stands : Stands n p k (x + 1)
  next_stands = record { within = omega arith; from = λ _. let e : x + 1 - 1 ≡ x = omega arith in rw e free }

  -- no other place links to x
  alone : (m y : ℕ) → (m ≡ i → ⊥) → Stands n p k m → Link n p k m y → y ≡ x → ⊥
  alone m y ne st l e = by (ltb i m) refl
    where
      by : (q : Bool) → ltb i m ≡ q → ⊥
      by true f =
          let lt = ltb-true i m f in
          never (seen p k (m - 1)) (here.between (m - 1) (omega arith) (omega (arith, l.above))) (st.from (omega arith))
      by false f =
          let ge = ltb-false i m f in
          let lt : m < i = omega arith in
          never (seen p k (i - 1)) (l.between (i - 1) (omega arith) (omega (arith, here.above))) (s.from (omega arith))

  past : Link n (set p k x) (k + 1) i (get_or a (x + 1) 0)
  past =
      let m = r.link (x + 1) next_stands in
      record {
        above = omega (arith, m.above, here.above);
        top = m.top;
        free = λ l. seen_other p k x room _ (λ e. omega (arith, m.above)) ∙ m.free l;
        between = λ z g l. by z g l (eqb z x) refl;
      }
    where
      apart : (z : ℕ) → i ≤ z → z < get_or a (x + 1) 0 → (z ≡ x → ⊥) → (q : Bool) → ltb z x ≡ q → seen p k z ≡ true
      apart z g l ne true f = here.between z g (ltb-true z x f)
      apart z g l ne false f = let ge = ltb-false z x f in (r.link (x + 1) next_stands).between z (omega arith) l

      by : (z : ℕ) → i ≤ z → z < get_or a (x + 1) 0 → (q : Bool) → eqb z x ≡ q → seen (set p k x) (k + 1) z ≡ true
      by z g l true f = rw (eqb-true z x f) (seen_own p k x room)
      by z g l false f = seen_still p k x room z (apart z g l (eqb-false z x f) (ltb z x) refl)

  kept : (m : ℕ) → (m ≡ i → ⊥) → Stands n (set p k x) (k + 1) m → Link n (set p k x) (k + 1) m (get_or a m 0)
  kept m ne st =
      let l = r.link m old in
      record {
        above = l.above;
        top = l.top;
        free = λ g. seen_other p k x room _ (alone m (get_or a m 0) ne old l) ∙ l.free g;
        between = λ z g h. seen_still p k x room z (l.between z g h);
      }
    where
      old : Stands n p k m
      old = record {
        within = st.within;
        from = λ g. sym (seen_other p k x room (m - 1) (λ e. never (seen (set p k x) (k + 1) x) (seen_own p k x room) (rw e at (st.from g)))) ∙ st.from g;
      }

  pub taken_out : Links n (set p k x) (k + 1) (set a i (get_or a (x + 1) 0))
  taken_out = record {
    long = length-set a i (get_or a (x + 1) 0) ∙ r.long;
    link = λ m st. by m st (eqb m i) refl;
  }
    where
      by : (m : ℕ) → Stands n (set p k x) (k + 1) m → (q : Bool) → eqb m i ≡ q → Link n (set p k x) (k + 1) m (get_or (set a i (get_or a (x + 1) 0)) m 0)
      by m st true f = rw (eqb-true m i f, get_or-set_same a i (get_or a (x + 1) 0) 0 (omega (arith, r.long, s.within))) past
      by m st false f = rw (get_or-set_other a i m (get_or a (x + 1) 0) 0 (eqb-false m i f)) (kept m (eqb-false m i f) st)

-- ---- at the start tile 0 is placed, and all others are left

abbrev pub fresh : List ℕ
fresh = 1 ∷ 1 ∷ 2 ∷ 3 ∷ 4 ∷ 5 ∷ 6 ∷ 7 ∷ 8 ∷ 9 ∷ 10 ∷ []

fresh_all : any (λ i. not (eqb (get_or fresh (i + 1) 0) (i + 1))) 10 ≡ false
unfolding any
fresh_all = refl

fresh_own : (i : ℕ) → 0 < i → i ≤ 10 → get_or fresh i 0 ≡ i
fresh_own i l h =
    let e : i - 1 + 1 ≡ i = omega arith in
    rw e at (eqb-true (get_or fresh (i - 1 + 1) 0) (i - 1 + 1) (not-false (eqb (get_or fresh (i - 1 + 1) 0) (i - 1 + 1)) (any_fails (λ m. not (eqb (get_or fresh (m + 1) 0) (m + 1))) (i - 1) 10 (omega arith) fresh_all)))

seen_zero : seen (replicate 10 0) 1 0 ≡ true
unfolding any
seen_zero = refl

unseen : (z : ℕ) → 0 < z → seen (replicate 10 0) 1 z ≡ false
unseen z l = any_not _ 1 (λ i h. rw (zeros i 10) (ne_eqb 0 z (λ e. omega arith)))

pub fresh_links : (n : ℕ) → 1 ≤ n → n ≤ 10 → Links n (replicate 10 0) 1 fresh
fresh_links n some few = record { long = refl; link = λ i st. by i st (eqb i 0) refl }
  where
    by : (i : ℕ) → Stands n (replicate 10 0) 1 i → (q : Bool) → eqb i 0 ≡ q → Link n (replicate 10 0) 1 i (get_or fresh i 0)
    by i st true e =
        rw (eqb-true i 0 e)
        (record {
          above = omega arith;
          top = some;
          free = λ l. unseen 1 (omega arith);
          between = λ z g l. let q : z ≡ 0 = omega arith in rw q seen_zero;
        })
    by i st false e =
        let ne : i ≡ 0 → ⊥ = eqb-false i 0 e in
        let w = st.within in
        rw (fresh_own i (omega arith) (omega arith))
        (record { above = omega arith; top = w; free = λ l. unseen i (omega arith); between = λ z g l. absurd (omega arith) })
