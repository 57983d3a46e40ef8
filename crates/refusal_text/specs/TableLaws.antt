-- A line of a table told byte by byte, and how long its sentence can be. Assumes nothing.
use Rattle.std.specs.Prelude.{ℕ, zero, suc, ◌+◌, ◌-◌, ◌/◌, ◌%◌, ◌≤◌, ◌<◌, ◌≡◌, Bool, true, false, cond, ◌&&◌, List, [], ◌∷◌, ◌++◌, T, eqb, leb, ltb, length, drop, get_or}
use Rattle.std.proofs.Common.{le_refl, add-one, arith, ne_eqb, leb→le, length-append, drop_of_length-le, drop-cons}
use Rattle.std.proofs.Math.Seq.{length-sets}
use Rattle.text_writer.specs.Puts.{Puts}
use Rattle.text_writer.specs.PutLaws.{puts_join, puts_none}
use Rattle.text_writer.specs.Texts.{digits}
use Rattle.refusal_text.specs.Sentences.{table, Tells, number_at, met, begins, serves, later, line_for, marked, told, sentence, explain}

-- any bound on the text's length
pub puts_short : {b b' t : List ℕ} {at i m n : ℕ} → length t ≤ n → Puts b at t m b' i → Puts b at t n b' i
puts_short l p = record { is = p.is; ends = p.ends; short = l }

-- ---- which line

-- what is found lies before the next byte
pub later_most : (t : List ℕ) (n place when k found : ℕ) → found ≤ k → later t n place when k found ≤ k + 1
unfolding later
later_most t n place when k found h = by (begins t k && serves t n place when k)
  where
    by : (e : Bool) → cond e k found ≤ k + 1
    by true = omega arith
    by false = omega arith

-- ---- byte by byte

-- Whoever puts the rest at `at` of the buffer b has put the whole into the buffer that there was at first.
abbrev pub GoesOn : List ℕ → List ℕ → List ℕ → ℕ → List ℕ → Type 0
GoesOn before whole b at rest = (after : List ℕ) (next : ℕ) → Puts b at rest (length rest) after next → Tells before whole after next

exact : {b b' t : List ℕ} {at i m : ℕ} → Puts b at t m b' i → Puts b at t (length t) b' i
exact p = puts_short (le_refl _) p

pub puts_length : {b b' t : List ℕ} {at i m : ℕ} → Puts b at t m b' i → length b' ≡ length b
puts_length {b} {b'} {t} {at} p = rw p.is (length-sets b at t)

module _ (count : ℕ) (t : List ℕ) {before whole b : List ℕ} {at : ℕ} (k : ℕ) (on : GoesOn before whole b at (told count (drop k t))) where
  -- a byte within the line
  pub goes_on : {b' : List ℕ} {i : ℕ} → k < length t → (get_or t k 0 ≡ 10 → ⊥) → Puts b at (marked count (get_or t k 0)) 20 b' i → GoesOn before whole b' i (told count (drop (k + 1) t))
  goes_on h e p after next q = on after next (rw (drop-cons t k 0 h, ne_eqb (get_or t k 0) 10 e) (exact (puts_join p (rw (add-one k) at q))))

  -- its line feed
  pub ends_line : {b' : List ℕ} {i : ℕ} → k < length t → get_or t k 0 ≡ 10 → Puts b at (get_or t k 0 ∷ []) 1 b' i → Tells before whole b' i
  ends_line {b'} {i} h e p = on b' i (rw (drop-cons t k 0 h, e) (rw e at (exact p)))

  -- the text's end
  pub ends_text : length t ≤ k → Tells before whole b at
  ends_text h = on b at (rw (drop_of_length-le t h) (puts_none b at 0))

-- ---- how long

digits_short : (places n : ℕ) → length (digits places n) ≤ places
unfolding digits
digits_short zero n = omega arith
digits_short (suc places) n = by (ltb n 10) (digits_short places (n / 10))
  where
    by : (e : Bool) → length (digits places (n / 10)) ≤ places → length (cond e ((48 + n) ∷ []) (digits places (n / 10) ++ (48 + n % 10) ∷ [])) ≤ suc places
    by true h = omega arith
    by false h = simp length-append (omega arith)

-- the most bytes that are told of a byte
abbrev width : ℕ → ℕ
width b = cond (eqb b 35) 20 1

marked_short : (count b : ℕ) → length (marked count b) ≤ width b
marked_short count b = by (eqb b 35)
  where
    by : (e : Bool) → length (cond e (digits 20 count) (b ∷ [])) ≤ cond e 20 1
    by true = digits_short 20 count
    by false = omega arith

-- with n before them in its line, the bytes up to the next line feed are at most 212, and so are those of each later line
unfoldable fits : ℕ → List ℕ → Bool
fits n [] = leb n 212
fits n (b ∷ t) = leb (n + width b) 212 && fits (cond (eqb b 10) 0 (n + width b)) t

split : (x y : Bool) → T (x && y) → T x × T y
split true y h = (tt, h)
split false y h = absurd h

told_short : (count n : ℕ) (t : List ℕ) → T (fits n t) → n + length (told count t) ≤ 212
unfolding fits
told_short count n [] f = omega (arith, leb→le n 212 f)
told_short count n (b ∷ t) f =
    let h = split (leb (n + width b) 212) _ f in
    by (eqb b 10) h.1 (leb→le (n + width b) 212 h.0) (λ m. told_short count m t)
  where
    by : (e : Bool) → T (fits (cond e 0 (n + width b)) t) → n + width b ≤ 212 → ((m : ℕ) → T (fits m t) → m + length (told count t) ≤ 212) → n + length (cond e (10 ∷ []) (marked count b ++ told count t)) ≤ 212
    by true g h r = let w = marked_some (eqb b 35) in omega arith
      where
        marked_some : (e : Bool) → 1 ≤ cond e 20 1
        marked_some true = omega arith
        marked_some false = omega arith
    by false g h r = simp length-append (let w = marked_short count b in let l = r (n + width b) g in omega arith)

rest_short : (count n k : ℕ) (t : List ℕ) → T (fits n t) → length (told count (drop k t)) ≤ 212
unfolding fits
rest_short count n zero t f = let h = told_short count n t f in omega arith
rest_short count n (suc k) [] f = omega arith
rest_short count n (suc k) (b ∷ t) f = rest_short count (cond (eqb b 10) 0 (n + width b)) k t (split (leb (n + width b) 212) _ f).1

-- one test of the whole table
table_fits : T (fits 0 table)
unfolding table fits
table_fits = tt

pub explain_short : (n place runs : ℕ) (sampled : Bool) → length (explain n place runs sampled) ≤ 212
unfolding explain sentence
explain_short n place runs sampled = let k = line_for table n place (met runs sampled) in rest_short (place - number_at table (k + 9)) 0 (k + 12) table table_fits
