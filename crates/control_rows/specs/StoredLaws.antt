-- Laws of the storing loop: its length, what stands where, and a part that is lent from an offset on. Assumes nothing.
use Prim.Native.Nat.{ℕ, zero, suc, ◌+◌, ◌-◌, ◌<◌, ◌≤◌}
use Rattle.std.specs.Prelude.{◌≡◌, Bool, true, false, List, [], ◌∷◌, ◌++◌, ltb, set, length, take, drop, Float}
use Rattle.std.proofs.Math.Path.{refl, ap}
use Rattle.std.proofs.Common.{sym, ◌∙◌, subst, append-nil, zero-add, suc-add, add-zero, add-suc, arith, ltb-true, ltb-false, length-set, length-drop, take-append-drop, drop_of_length-le, get_or-append-add, length-take-le, take_all}
use Rattle.std.proofs.Math.Seq.{get_or-set_same, get_or-set_other}
use Rattle.std.specs.Float.Ieee.{nan}
use Rattle.common.specs.Iter.{iter}
use Rattle.common.specs.Lists.{at, slice, pasted}
use Rattle.control_rows.specs.Stored.{put, stored}

-- no number is added or lost
pub stored_length : (f : ℕ → Float → Float) (l : List Float) (n : ℕ) → length (stored f l n) ≡ length l
unfolding iter
stored_length f l zero = refl
stored_length f l (suc n) = length-set (stored f l n) n _ ∙ stored_length f l n

-- a store past a front
set_past : (xs ys : List Float) (n : ℕ) (a : Float) → set (xs ++ ys) (length xs + n) a ≡ xs ++ set ys n a
set_past [] ys n a = ap (λ (k : ℕ). set ys k a) (zero-add n)
set_past (x ∷ xs) ys n a = ap (λ (k : ℕ). set (x ∷ (xs ++ ys)) k a) (suc-add (length xs) n) ∙ ap (λ (r : List Float). x ∷ r) (set_past xs ys n a)

-- one turn past a front of a numbers
put_past : (f g : ℕ → Float → Float) (xs ys : List Float) (a n : ℕ) → length xs ≡ a → ((x : Float) → f n x ≡ g (a + n) x) → xs ++ put f n ys ≡ put g (a + n) (xs ++ ys)
put_past f g xs ys a n e same =
    ap (λ (v : Float). xs ++ set ys n v) (same (at ys n) ∙ ap (g (a + n)) (sym (rw e at (get_or-append-add xs ys n nan))))
    ∙ sym (rw e at (set_past xs ys n (g (a + n) (at (xs ++ ys) (a + n)))))

-- the first a numbers stored, then d more in what follows them: the first a + d stored
stored_past : (f g : ℕ → Float → Float) (l : List Float) (a d : ℕ) → a ≤ length l → ((k : ℕ) → k < d → (x : Float) → f k x ≡ g (a + k) x)
    → take a (stored g l a) ++ stored f (drop a (stored g l a)) d ≡ stored g l (a + d)
unfolding iter
stored_past f g l a zero h same = rw add-zero (take-append-drop a (stored g l a))
stored_past f g l a (suc d) h same =
    rw (add-suc a d)
    (put_past f g (take a (stored g l a)) (stored f (drop a (stored g l a)) d) a d
    (length-take-le a (stored g l a) (rw stored_length h))
    (same d (omega arith))
    ∙ ap (put g (a + d)) (stored_past f g l a d h (λ k b. same k (omega arith))))

-- a row s whose first a numbers are stored, and whose rest is lent to store d more
pub stored_rest : (f g : ℕ → Float → Float) (l : List Float) (a d e : ℕ) {s : List Float} → s ≡ stored g l a → length l ≡ e → a + d ≤ e
    → ((k : ℕ) → k < d → (x : Float) → f k x ≡ g (a + k) x) → pasted s a e (stored f (slice a e s) d) ≡ stored g l (a + d)
stored_rest f g l a d e {s} p q h same =
    let le : length s ≡ e = ap length p ∙ stored_length g l a ∙ q in
    let ld : length (drop a s) ≡ e - a = rw length-drop (rw le refl) in
    rw (take_all (e - a) (drop a s) (omega arith), drop_of_length-le (drop a s) {i = e - a} (omega arith), append-nil, p)
    (stored_past f g l a d (omega arith) same)

-- ---- what stands where
module _ (f : ℕ → Float → Float) (l : List Float) where
  -- past the first n numbers every one stays
  pub stored_after : (n i : ℕ) → n ≤ i → at (stored f l n) i ≡ at l i
  unfolding iter
  stored_after zero i h = refl
  stored_after (suc n) i h = get_or-set_other (stored f l n) n i _ nan (λ e. omega arith) ∙ stored_after n i (omega arith)

  -- each of the first n is f of its index and of what stood there
  pub stored_at : (n i : ℕ) → i < n → n ≤ length l → at (stored f l n) i ≡ f i (at l i)
  unfolding iter
  stored_at zero i h r = absurd (omega arith)
  stored_at (suc n) i h r = go (ltb i n) (λ e. stored_at n i (ltb-true i n e) (omega arith)) (ltb-true i n) (ltb-false i n)
    where
      last : at (stored f l (suc n)) n ≡ f n (at l n)
      last = get_or-set_same (stored f l n) n _ nan (rw stored_length r) ∙ ap (f n) (stored_after n n (omega arith))

      go : (b : Bool) → (b ≡ true → at (stored f l n) i ≡ f i (at l i)) → (b ≡ true → i < n) → (b ≡ false → n ≤ i) → at (stored f l (suc n)) i ≡ f i (at l i)
      go true o p q = let s : i < n = p refl in get_or-set_other (stored f l n) n i _ nan (λ e. omega arith) ∙ o refl
      go false o p q = let s : n ≤ i = q refl in let e : n ≡ i = omega arith in subst (λ (j : ℕ). at (stored f l (suc n)) j ≡ f j (at l j)) e last
