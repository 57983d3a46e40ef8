-- What holds of a series' stages: bounds that the code's words keep, what is counted, one step further, the end. Assumes nothing.
use Rattle.std.proofs.Common.{◌≡◌, ℕ, zero, suc, ◌+◌, ◌-◌, ◌*◌, ◌/◌, ◌%◌, ◌^◌, ◌<◌, ◌≤◌, sym, refl, ap, ◌∙◌, subst, ⊎_elim, le_trans, le_of_eq, le_refl, le_of_suc-le-suc, lt_of_le_of_lt, add-zero, mul-le-mul_right, mul-le-mul, eq-or-lt_of_le, mul-le-mul_left, div-mul-le_self, add-one, arith, lit<}
use native.Mathlib.Nat.{sub-zero}
use Rattle.angles.specs.declared.series.Stage.{Stage}
use Rattle.angles.specs.Angles.{divisor}
use Rattle.angles.specs.SizesInner.{next_of, Small, term_of, alter, sum_of}
use Rattle.angles.specs.SeriesLaws.{shift_le, next_le, Held, held}
use Rattle.angles.specs.Ended.{Formed}
use Rattle.angles.specs.EndedInner.{first_of, part_of, parts_of, tally, count_of, stage_of, Ends}
use Rattle.angles.specs.EndedLaws.{zero_on, formed_all, formed_at}
use Rattle.angles.proofs.Division.{next_within}

-- ---- terms shrink

falls : (c u m n : ℕ) → u < 2 ^ 60 → m ≤ n → part_of c u n ≤ part_of c u m
unfolding term_of
falls c u m zero h l = let z : 0 ≡ m = omega arith in le_of_eq (ap (part_of c u) z)
falls c u m (suc n) h l =
    ⊎_elim (λ p. le_of_eq (ap (part_of c u) (sym p))) (λ p. le_trans (next_le (part_of c u n) u (divisor c n) h) (falls c u m n h (le_of_suc-le-suc p)))
    (eq-or-lt_of_le l)

shrinks : (c u n d : ℕ) → u < 2 ^ 60 → d ≤ divisor c n → part_of c u (suc n) * d ≤ part_of c u n
unfolding term_of
shrinks c u n d h l = le_trans (mul-le-mul_left (next_of u (divisor c n) (part_of c u n)) l) (next_within (part_of c u n) u (divisor c n) h)

one : (c u : ℕ) → c ≤ 1 → u < 2 ^ 60 → part_of c u 1 * 2 ≤ u
unfolding term_of
one zero u C h = le_trans (div-mul-le_self (2 ^ 60 * u / 2 ^ 60 * u / 2 ^ 60) 2) (le_trans (shift_le (2 ^ 60 * u / 2 ^ 60) u h) (omega arith))
one (suc zero) u C h = omega (arith, shrinks 1 u 0 6 h (le_refl 6))
one (suc (suc c)) u C h = absurd (never c C)
  where
    never : (c : ℕ) → suc (suc c) ≤ 1 → ⊥
    never c C = omega arith

module _ (c u : ℕ) (C : c ≤ 1) (h : u < 2 ^ 60) where
  two : part_of c u 2 * 24 ≤ u
  two = omega (arith, shrinks c u 1 12 h (mul-le-mul {n₁ = 3} {m₁ = 4} (omega arith) (omega arith)), one c u C h)

  three : part_of c u 3 * 720 ≤ u
  three = omega (arith, shrinks c u 2 30 h (mul-le-mul {n₁ = 5} {m₁ = 6} (omega arith) (omega arith)), two)

  four : part_of c u 4 * 40320 ≤ u
  four = omega (arith, shrinks c u 3 56 h (mul-le-mul {n₁ = 7} {m₁ = 8} (omega arith) (omega arith)), three)

  pub small : (j : ℕ) → Small j (part_of c u j) u (divisor c j)
  small j =
      record {
        third = λ l. (le_trans (mul-le-mul_right 24 (falls c u 2 j h l)) two, mul-le-mul {n₁ = 5} {m₁ = 6} (omega (arith, l)) (omega (arith, l)));
        fourth = λ l. (le_trans (mul-le-mul_right 720 (falls c u 3 j h l)) three, mul-le-mul {n₁ = 7} {m₁ = 8} (omega (arith, l)) (omega (arith, l)));
        later = λ l. (le_trans (mul-le-mul_right 40320 (falls c u 4 j h l)) four, mul-le-mul {n₁ = 9} {m₁ = 10} (omega (arith, l)) (omega (arith, l)));
      }

pub divisor_most : (c j : ℕ) → c ≤ 1 → j ≤ 7 → divisor c j ≤ 272
divisor_most c j C J = mul-le-mul {n₂ = 16} {m₂ = 17} (omega arith) (omega arith)

pub divisor_least : (c j : ℕ) → 2 ≤ divisor c j
divisor_least c j = mul-le-mul {n₁ = 1} {m₁ = 2} (omega arith) (omega arith)

fits_first : (c u : ℕ) → c ≤ 1 → u < 2 ^ 60 → part_of c u 0 * divisor c 0 < 2 ^ 64
unfolding term_of
fits_first zero u C h = lit< tt
fits_first (suc zero) u C h = omega arith
fits_first (suc (suc c)) u C h = absurd (never c C)
  where
    never : (c : ℕ) → suc (suc c) ≤ 1 → ⊥
    never c C = omega arith

pub fits : (c u j : ℕ) → c ≤ 1 → j ≤ 7 → u < 2 ^ 60 → part_of c u j * divisor c j < 2 ^ 64
fits c u zero C J h = fits_first c u C h
fits c u (suc zero) C J h = lt_of_le_of_lt (mul-le-mul_left (part_of c u 1) (mul-le-mul {n₂ = 4} {m₂ = 5} (omega arith) (omega arith))) (omega (arith, one c u C h))
fits c u (suc (suc j)) C J h = lt_of_le_of_lt (mul-le-mul_left (part_of c u (suc (suc j))) (divisor_most c (suc (suc j)) C J)) (omega (arith, two c u C h, falls c u 2 (suc (suc j)) h (omega arith)))

-- ---- the sum holds the next term, or has room for it

odd : 1 % 2 ≡ 0 → ⊥
odd e = omega arith

even : (j : ℕ) → suc (suc j) % 2 ≡ 0 → j % 2 ≡ 0
even j e = omega arith

even_on : (j : ℕ) → j % 2 ≡ 0 → suc (suc j) % 2 ≡ 0
even_on j e = omega arith

held_even : (a j s t : ℕ) → j % 2 ≡ 0 → Held a j s t → t ≤ s
held_even a zero s t e h = h.0
held_even a (suc zero) s t e h = absurd (odd e)
held_even a (suc (suc j)) s t e h = held_even a j s t (even j e) h

held_odd : (a j s t : ℕ) → (j % 2 ≡ 0 → ⊥) → Held a j s t → s + t ≤ a
held_odd a zero s t e h = absurd (e refl)
held_odd a (suc zero) s t e h = h
held_odd a (suc (suc j)) s t e h = held_odd a j s t (λ z. e (even_on j z)) h

first_most : (c u : ℕ) → u < 2 ^ 60 → first_of c u ≤ 2 ^ 60
first_most zero u h = le_refl (2 ^ 60)
first_most (suc c) u h = omega arith

off : (j s t : ℕ) → j % 2 ≡ 0 → s - t ≡ alter j s t
off zero s t e = refl
off (suc zero) s t e = absurd (odd e)
off (suc (suc j)) s t e = off j s t (even j e)

on : (j s t : ℕ) → (j % 2 ≡ 0 → ⊥) → s + t ≡ alter j s t
on zero s t e = absurd (e refl)
on (suc zero) s t e = refl
on (suc (suc j)) s t e = on j s t (λ z. e (even_on j z))

pub tally_some : (t : ℕ) → 1 ≤ t → 1 ≡ tally t
tally_some zero h = absurd (never h)
  where
    never : 1 ≤ 0 → ⊥
    never h = omega arith
tally_some (suc t) h = refl

-- ---- what is counted

zeros : (c u a m n : ℕ) → m ≤ n → term_of c u a m ≡ 0 → term_of c u a n ≡ 0
zeros c u a m zero l e = subst (λ (k : ℕ). term_of c u a k ≡ 0) (omega arith) e
zeros c u a m (suc n) l e = ⊎_elim (λ p. subst (λ (k : ℕ). term_of c u a k ≡ 0) p e) (λ p. zero_on c u a n (zeros c u a m n (omega arith) e)) (eq-or-lt_of_le l)

pub record CountIs (c u n k : ℕ) : Type 0 where
  pub before : (j : ℕ) → j < k → part_of c u j ≡ 0 → ⊥
  pub after : k ≤ n → part_of c u k ≡ 0
  pub within : k ≤ suc n

pub count_is : (c u n : ℕ) → CountIs c u n (count_of c u n)
unfolding count_of
count_is c u zero = go (part_of c u zero) refl
  where
    go : (t : ℕ) → part_of c u zero ≡ t → CountIs c u zero (tally t)
    go zero e = record { before = λ j l z. omega arith; after = λ l. e; within = omega arith }
    go (suc t) e = record { before = λ j l z. no (subst (λ (i : ℕ). part_of c u i ≡ 0) (omega arith) z); after = λ l. absurd (never l); within = omega arith }
      where
        no : part_of c u zero ≡ 0 → ⊥
        no z = omega arith

        never : 1 ≤ 0 → ⊥
        never l = omega arith
count_is c u (suc n) = go (count_of c u n) (count_is c u n) (part_of c u (suc n)) refl
  where
    go : (k : ℕ) → CountIs c u n k → (t : ℕ) → part_of c u (suc n) ≡ t → CountIs c u (suc n) (k + tally t)
    go k q zero e =
        subst (CountIs c u (suc n)) (sym (add-zero k))
        (record { before = q.before; after = λ l. ⊎_elim (λ p. subst (λ (i : ℕ). part_of c u i ≡ 0) (sym p) e) (λ p. q.after (le_of_suc-le-suc p)) (eq-or-lt_of_le l); within = omega (arith, q.within) })
    go k q (suc t) e =
        record {
          before = λ j l z. no (zeros c u (first_of c u) j (suc n) (omega (arith, q.within)) z);
          after = λ l. absurd (no (zeros c u (first_of c u) k (suc n) (omega (arith, l)) (q.after (omega (arith, l)))));
          within = omega (arith, q.within);
        }
      where
        no : part_of c u (suc n) ≡ 0 → ⊥
        no z = omega arith

-- nine terms are formed, or fewer with a zero one at the end
pub ends_zero : (c u : ℕ) → part_of c u 8 ≡ 0 → Ends c u (parts_of c u 8) (count_of c u 8 + 1)
ends_zero c u e = record { sum = refl; terms = subst (Formed (part_of c u) 9) (sym (add-one (count_of c u 8))) (at (count_of c u 8) (count_is c u 8)) }
  where
    at : (k : ℕ) → CountIs c u 8 k → Formed (part_of c u) 9 (suc k)
    at k q = ⊎_elim (λ p. absurd (q.before 8 (omega arith) e)) (λ p. formed_at (part_of c u) 9 k (omega arith) (q.after (omega arith)) q.before) (eq-or-lt_of_le q.within)

pub ends_some : (c u : ℕ) → (part_of c u 8 ≡ 0 → ⊥) → Ends c u (parts_of c u 8) (count_of c u 8)
ends_some c u e = record { sum = refl; terms = subst (Formed (part_of c u) 9) (sym all) (formed_all (part_of c u) 9 (omega arith) (λ j l. q.before j (omega (arith, l, all)))) }
  where
    q : CountIs c u 8 (count_of c u 8)
    q = count_is c u 8

    all : count_of c u 8 ≡ 9
    all = ⊎_elim (λ p. p) (λ p. absurd (e (zeros c u (first_of c u) (count_of c u 8) 8 (omega (arith, p)) (q.after (omega (arith, p)))))) (eq-or-lt_of_le q.within)

-- ---- one step further

alter_none : (n s : ℕ) → alter n s 0 ≡ s
alter_none zero s = sub-zero s
alter_none (suc zero) s = add-zero s
alter_none (suc (suc n)) s = alter_none n s

module _ (c u j : ℕ) (p : Stage) (e : p ≡ stage_of c u j) where
  abbrev next : ℕ
  next = part_of c u (suc j)

  pub term_same : {t : ℕ} → t ≡ next_of u (divisor c j) p.term → t ≡ part_of c u (suc j)
  unfolding term_of
  term_same f = f ∙ ap (λ (q : Stage). next_of u (divisor c j) q.term) e

  module _ (t : ℕ) (f : t ≡ next) where
    pub within_even : u < 2 ^ 60 → j % 2 ≡ 0 → t ≤ p.sum
    within_even h g = subst (λ (q : Stage). t ≤ q.sum) (sym e) (subst (λ (v : ℕ). v ≤ parts_of c u j) (sym f) (le_trans (falls c u j (suc j) h (omega arith)) (held_even (first_of c u) j (parts_of c u j) (part_of c u j) g (held c u (first_of c u) h j))))

    pub within_odd : u < 2 ^ 60 → (j % 2 ≡ 0 → ⊥) → p.sum + t ≤ 2 ^ 60
    within_odd h g =
        subst (λ (q : Stage). q.sum + t ≤ 2 ^ 60) (sym e)
        (subst (λ (v : ℕ). parts_of c u j + v ≤ 2 ^ 60) (sym f) (omega (arith, falls c u j (suc j) h (omega arith), held_odd (first_of c u) j (parts_of c u j) (part_of c u j) g (held c u (first_of c u) h j), first_most c u h)))

    -- with a term that is not zero
    one_more : 1 ≤ next → {s : ℕ} → s ≡ alter j (parts_of c u j) next → ◌≡◌ {A = Stage} (record { sum = s; term = t; terms = p.terms + 1 }) (stage_of c u (j + 1))
    unfolding sum_of count_of
    one_more l g =
        (λ i. record { sum = g i; term = f i; terms = (e i).terms + tally_some next l i })
        ∙ ap (stage_of c u) (sym (add-one j))

    pub taken_off : 1 ≤ next → j % 2 ≡ 0 → ◌≡◌ {A = Stage} (record { sum = p.sum - t; term = t; terms = p.terms + 1 }) (stage_of c u (j + 1))
    taken_off l g = one_more l ((λ i. (e i).sum - f i) ∙ off j (parts_of c u j) next g)

    pub added : 1 ≤ next → (j % 2 ≡ 0 → ⊥) → ◌≡◌ {A = Stage} (record { sum = p.sum + t; term = t; terms = p.terms + 1 }) (stage_of c u (j + 1))
    added l g = one_more l ((λ i. (e i).sum + f i) ∙ on j (parts_of c u j) next g)

  -- with a zero one
  pub stays : next ≡ 0 → ◌≡◌ {A = Stage} (record { sum = p.sum; term = 0; terms = p.terms }) (stage_of c u (j + 1))
  unfolding sum_of count_of
  stays z =
      let s : p.sum ≡ alter j (parts_of c u j) next = ap (λ (q : Stage). q.sum) e ∙ sym (ap (alter j (parts_of c u j)) z ∙ alter_none j (parts_of c u j)) in
      let k : p.terms ≡ count_of c u j + tally next = ap (λ (q : Stage). q.terms) e ∙ sym (ap (λ (t : ℕ). count_of c u j + tally t) z ∙ add-zero (count_of c u j)) in
      (λ i. record { sum = s i; term = sym z i; terms = k i })
      ∙ ap (stage_of c u) (sym (add-one j))

-- the last arm of a match on 0 to 7
pub seventh : (j : ℕ) → j ≤ 7 → (j ≡ 0 → ⊥) → (j ≡ 1 → ⊥) → (j ≡ 2 → ⊥) → (j ≡ 3 → ⊥) → (j ≡ 4 → ⊥) → (j ≡ 5 → ⊥) → (j ≡ 6 → ⊥) → j ≡ 7
seventh zero l a b c d e f g = absurd (a refl)
seventh (suc zero) l a b c d e f g = absurd (b refl)
seventh (suc (suc zero)) l a b c d e f g = absurd (c refl)
seventh (suc (suc (suc zero))) l a b c d e f g = absurd (d refl)
seventh (suc (suc (suc (suc zero)))) l a b c d e f g = absurd (e refl)
seventh (suc (suc (suc (suc (suc zero))))) l a b c d e f g = absurd (f refl)
seventh (suc (suc (suc (suc (suc (suc zero)))))) l a b c d e f g = absurd (g refl)
seventh (suc (suc (suc (suc (suc (suc (suc zero))))))) l a b c d e f g = refl
seventh (suc (suc (suc (suc (suc (suc (suc (suc j)))))))) l a b c d e f g = absurd (never j l)
  where
    never : (j : ℕ) → suc (suc (suc (suc (suc (suc (suc (suc j))))))) ≤ 7 → ⊥
    never j l = omega arith
