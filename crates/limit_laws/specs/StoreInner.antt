-- Inner words of the laws of rows: what the storing loop leaves, known by its places. Assumes nothing.
use Rattle.std.specs.Prelude.{ℕ, ◌<◌, ◌≤◌, ◌≡◌, List, map, ltb, length, Float}
use Rattle.std.proofs.Common.{sym, ap, ◌∙◌, ltb→lt, nltb→le, ext_get_or}
use Rattle.std.proofs.lemmas.List.{length-map}
use Rattle.std.proofs.Math.ListN.{get_or-map}
use Rattle.std.specs.Float.{nan}
use Rattle.std.specs.Float.Ieee.{neg}
use Rattle.common.specs.Lists.{at}
use Rattle.float_laws.specs.Clamp.{test}
use Rattle.control_rows.specs.Stored.{stored}
use Rattle.control_rows.specs.StoredLaws.{stored_length, stored_at, stored_after}

-- minus at a place
neg_at : (u : List Float) (i : ℕ) → at (map neg u) i ≡ neg (at u i)
unfolding neg
neg_at u i = get_or-map neg u i nan

module _ (f : ℕ → Float → Float) (u : List Float) (n : ℕ) (h : n ≤ length u) where
  -- a row with the right places is it
  stored_is : (l : List Float) → length l ≡ length u → ((i : ℕ) → i < n → at l i ≡ f i (at u i)) → ((i : ℕ) → n ≤ i → at l i ≡ at u i) → l ≡ stored f u n
  stored_is l e p q =
      ext_get_or nan l (stored f u n) (e ∙ sym (stored_length f u n))
      (λ i b. test (ltb i n)
      (λ t. let s = ltb→lt i n t in p i s ∙ sym (stored_at f u n i s h))
      (λ t. let s = nltb→le i n t in q i s ∙ sym (stored_after f u n i s)))

  -- what holds of each stored number and of each that stays holds of every place
  pub stored_every : (P : ℕ → Float → Type 0) (i : ℕ) → (i < n → P i (f i (at u i))) → (n ≤ i → P i (at u i)) → P i (at (stored f u n) i)
  stored_every P i p q = test (ltb i n) (λ t. let s = ltb→lt i n t in rw (stored_at f u n i s h) (p s)) (λ t. let s = nltb→le i n t in rw (stored_after f u n i s) (q s))

-- two loops, one after the other, are one
pub stored_then : (f g k : ℕ → Float → Float) (u : List Float) (n : ℕ) → n ≤ length u → ((i : ℕ) → i < n → g i (f i (at u i)) ≡ k i (at u i)) → stored g (stored f u n) n ≡ stored k u n
stored_then f g k u n h same =
    let s = stored f u n in
    let e : length s ≡ length u = stored_length f u n in
    stored_is k u n h (stored g s n) (stored_length g s n ∙ e)
    (λ i b. stored_at g s n i b (rw e h) ∙ ap (g i) (stored_at f u n i b h) ∙ same i b)
    (λ i b. stored_after g s n i b ∙ stored_after f u n i b)

-- of the negated row
pub stored_neg : (f : ℕ → Float → Float) (u : List Float) (n : ℕ) → n ≤ length u → ((i : ℕ) → i < n → f i (neg (at u i)) ≡ neg (f i (at u i))) → stored f (map neg u) n ≡ map neg (stored f u n)
stored_neg f u n h odd =
    let s = stored f u n in
    let v = map neg u in
    let e : length v ≡ length u = length-map u neg in
    sym (stored_is f v n (rw e h) (map neg s) (length-map s neg ∙ stored_length f u n ∙ sym e)
    (λ i b. neg_at s i ∙ ap neg (stored_at f u n i b h) ∙ sym (odd i b) ∙ ap (f i) (sym (neg_at u i)))
    (λ i b. neg_at s i ∙ ap neg (stored_after f u n i b) ∙ sym (neg_at u i)))
