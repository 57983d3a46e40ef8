-- The laws of the lowest number that passes a test. Assumes nothing.
use Rattle.std.specs.Prelude.{ℕ, zero, suc, ◌<◌, ◌≤◌, ◌≡◌, refl, Bool, true, false, cond, ◌&&◌, ltb}
use Rattle.std.proofs.Common.{arith, sym, ap, ◌∙◌, ltb-true, ltb-false}
use Rattle.reach_avoid.specs.Game.{least}

-- two values of a Bool at once are absurd
pub clash : {b : Bool} → b ≡ true → b ≡ false → ⊥
clash p q = let z : ◌≡◌ {A = ℕ} 0 1 = cc in omega arith

pub and_true : (a b : Bool) → (a && b) ≡ true → (a ≡ true) × (b ≡ true)
and_true true b e = (refl, e)
and_true false b e = absurd (clash e refl)

-- r is the lowest number below n that passes p, or n where none does
pub record Least (p : ℕ → Bool) (n r : ℕ) : Type 0 where
  pub within : r ≤ n
  pub before : (i : ℕ) → i < r → p i ≡ false
  pub here : r < n → p r ≡ true

one_more : (p : ℕ → Bool) (n r : ℕ) → Least p n r → (s t : Bool) → ltb r n ≡ s → p n ≡ t → Least p (suc n) (cond s r (cond t n (suc n)))
one_more p n r l true t e f = let h : r < n = ltb-true r n e in record { within = omega arith; before = l.before; here = λ _. l.here h }
one_more p n r l false true e f =
    let h : n ≡ r = let g : n ≤ r = ltb-false r n e in omega (arith, l.within) in
    record { within = omega arith; before = λ i g. l.before i (omega arith); here = λ _. f }
one_more p n r l false false e f =
    let h : n ≡ r = let g : n ≤ r = ltb-false r n e in omega (arith, l.within) in
    record { within = omega arith; before = λ i g. by i g (ltb i n) refl; here = λ g. absurd (omega arith) }
  where
    by : (i : ℕ) → i < suc n → (b : Bool) → ltb i n ≡ b → p i ≡ false
    by i g true q = let h : n ≤ r = ltb-false r n e in let k : i < n = ltb-true i n q in l.before i (omega arith)
    by i g false q = let k : n ≤ i = ltb-false i n q in let z : i ≡ n = omega arith in ap p z ∙ f

pub least_is : (p : ℕ → Bool) (n : ℕ) → Least p n (least p n)
unfolding least
least_is p zero = record { within = omega arith; before = λ i h. absurd (omega arith); here = λ h. absurd (omega arith) }
least_is p (suc n) = one_more p n (least p n) (least_is p n) (ltb (least p n) n) (p n) refl refl

-- there is one such number
pub least_one : (p : ℕ → Bool) (n : ℕ) {r s : ℕ} → Least p n r → Least p n s → r ≡ s
least_one p n {r} {s} a b = by (ltb r s) (ltb s r) refl refl
  where
    by : (x y : Bool) → ltb r s ≡ x → ltb s r ≡ y → r ≡ s
    by true y e f = let h : r < s = ltb-true r s e in absurd (clash (a.here (omega (arith, b.within))) (b.before r h))
    by false true e f = let h : s < r = ltb-true s r f in absurd (clash (b.here (omega (arith, a.within))) (a.before s h))
    by false false e f = let h : s ≤ r = ltb-false r s e in let g : r ≤ s = ltb-false s r f in omega arith

-- what a search that stops at the first finds
pub least_found : (p : ℕ → Bool) (n r : ℕ) → r < n → ((i : ℕ) → i < r → p i ≡ false) → p r ≡ true → r ≡ least p n
least_found p n r h b e = least_one p n (record { within = omega arith; before = b; here = λ _. e }) (least_is p n)

pub least_end : (p : ℕ → Bool) (n r : ℕ) → r ≡ n → ((i : ℕ) → i < r → p i ≡ false) → r ≡ least p n
least_end p n r h b = least_one p n (record { within = omega arith; before = b; here = λ g. absurd (omega arith) }) (least_is p n)

-- where none below n passes, it is n; where one does, it is below
pub least_none : (p : ℕ → Bool) (n : ℕ) → ((i : ℕ) → i < n → p i ≡ false) → least p n ≡ n
least_none p n h = sym (least_end p n n refl h)

pub least_some : (p : ℕ → Bool) (n i : ℕ) → i < n → p i ≡ true → ltb (least p n) n ≡ true
least_some p n i h e = by (ltb (least p n) n) refl
  where
    by : (b : Bool) → ltb (least p n) n ≡ b → ltb (least p n) n ≡ true
    by true q = q
    by false q = let l : n ≤ least p n = ltb-false (least p n) n q in absurd (clash e ((least_is p n).before i (omega arith)))

pub least_within : (p : ℕ → Bool) (n : ℕ) {r : ℕ} → r ≡ least p n → r ≤ n
least_within p n e = omega (arith, (least_is p n).within)
