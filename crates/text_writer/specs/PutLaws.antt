-- One text after another, a buffer that has room for the whole, a difference in decimal. Assumes nothing.
use Rattle.std.specs.Prelude.{ℕ, suc, ◌+◌, ◌-◌, ◌*◌, ◌≤◌, ◌<◌, ◌≡◌, Bool, true, false, cond, List, [], ◌∷◌, ◌++◌, ltb, pos, negsuc, length, drop}
use Rattle.std.proofs.Common.{arith, add-one, add-zero, add_assoc, add-suc, suc-add, sym, ◌∙◌, ap, ltb-true, length-append}
use Rattle.std.proofs.Math.Path.{refl}
use Rattle.std.proofs.Math.IntN.{sub_ℕ}
use Rattle.std.proofs.lemmas.List.Edits.{sets, sets-eq}
use Rattle.text.specs.Bytes.{bytes}
use Rattle.text_writer.specs.Puts.{Puts}
use Rattle.text_writer.specs.Texts.{times, digits, whole}

sets_append : (t u b : List ℕ) (at : ℕ) → sets b at (t ++ u) ≡ sets (sets b at t) (at + length t) u
sets_append [] u b at = rw add-zero
sets_append (c ∷ t) u b at = rw (add-suc at (length t), ← suc-add at (length t)) (sets_append t u (sets b at (c ∷ [])) (suc at))

-- nothing is put
pub puts_none : (b : List ℕ) (at most : ℕ) → Puts b at [] most b at
puts_none b at most = record { is = refl; ends = sym (add-zero at); short = omega arith }

-- a text, and another where it ends
pub puts_join : {b b' b'' t u : List ℕ} {at i j m n : ℕ} → Puts b at t m b' i → Puts b' i u n b'' j → Puts b at (t ++ u) (m + n) b'' j
puts_join {b} {b'} {b''} {t} {u} {at} {i} {j} p q =
    record {
      is = q.is ∙ rw (p.is, p.ends) (sym (sets_append t u b at));
      ends = let h = length-append t u in rw (q.ends, p.ends, h) (add_assoc at (length t) (length u));
      short = let h = length-append t u in omega arith;
    }

-- a longer bound
pub puts_most : {b b' t : List ℕ} {at i m n : ℕ} → m ≤ n → Puts b at t m b' i → Puts b at t n b' i
puts_most l p = record { is = p.is; ends = p.ends; short = omega arith }

-- ---- several texts, one after another

-- What a loop that puts one text a turn keeps: the first k of n texts are put, each of at most `size` bytes, and the buffer is as long as it was.
pub record PutsFirst (f : ℕ → List ℕ) (size n : ℕ) (b : List ℕ) (at k : ℕ) (b' : List ℕ) (i : ℕ) : Type 0 where
  pub within : k ≤ n
  pub puts : Puts b at (times f k) (size * k) b' i
  pub same : length b' ≡ length b

module _ {f : ℕ → List ℕ} {size n : ℕ} {b : List ℕ} {at : ℕ} where
  pub first_none : PutsFirst f size n b at 0 b at
  unfolding times
  first_none = record { within = omega arith; puts = puts_most (omega arith) (puts_none b at 0); same = refl }

  pub first_next : {b' b'' : List ℕ} {i j k : ℕ} → PutsFirst f size n b at k b' i → k < n → Puts b' i (f k) size b'' j → length b'' ≡ length b' → PutsFirst f size n b at (k + 1) b'' j
  unfolding times
  first_next {k = k} h l p e = record { within = omega arith; puts = rw (add-one k) (puts_most (omega arith) (puts_join h.puts p)); same = e ∙ h.same }

  pub first_all : {b' : List ℕ} {i k : ℕ} → PutsFirst f size n b at k b' i → n ≤ k → Puts b at (times f n) (size * n) b' i
  first_all {k = k} h l = let e : k ≡ n = omega arith in rw e at h.puts

-- where the buffer has room, it begins with the text, and what stands after it is as it was
pub puts_whole : {b b' t : List ℕ} {i most : ℕ} → Puts b 0 t most b' i → most ≤ length b → b' ≡ t ++ drop i b
puts_whole {b} {b'} {t} {i} p l = p.is ∙ sets-eq t b 0 (omega arith) ∙ rw p.ends

-- x - m, by which of the two is larger
pub whole_less : (x m : ℕ) → whole (sub_ℕ x m) ≡ cond (ltb x m) (bytes "-" ++ digits 20 (m - x)) (digits 20 (x - m))
whole_less x m = by (ltb x m) refl
  where
    by : (b : Bool) → ltb x m ≡ b → whole (cond b (negsuc (m - suc x)) (pos (x - m))) ≡ cond b (bytes "-" ++ digits 20 (m - x)) (digits 20 (x - m))
    by true e = let h : x < m = ltb-true x m e in let k : suc (m - suc x) ≡ m - x = omega arith in ap (λ n. bytes "-" ++ digits 20 n) k
    by false e = refl
