-- Rows gathered in place, one after the other: what is done after the first e rows. Assumes nothing.
use Prim.Native.Nat.{ℕ, zero, suc, ◌+◌, ◌-◌, ◌*◌, ◌<◌, ◌≤◌}
use Rattle.std.proofs.Math.Nat.{add-zero, add-suc}
use Rattle.std.proofs.Common.{arith, ap, ◌∙◌, true≢false, below_more, ltb-true, ltb-false, length-set, get_or-set_same, get_or-set_other}
use Rattle.std.specs.Prelude.{◌≡◌, refl, Bool, true, List, eqb, ltb, length, set, Float}
use Rattle.std.proofs.Math.Path.{sym}
use Rattle.std.proofs.Math.Bool.{false}
use Rattle.std.specs.Float.{nan}
use Rattle.common.specs.Iter.{iter}
use Rattle.common.specs.Lists.{at}
use Rattle.kept_rows.specs.Kept.{before_by, left_out, place, Gathered}
use Rattle.kept_rows.specs.KeptLaws.{place_next, place_below}
use Rattle.kept_rows.specs.ZeroLaws.{node_out, point_kept, last_kept}

-- row e + i goes to place to + i
abbrev pub move_turn : ℕ → ℕ → ℕ → List Float → List Float
move_turn e to i r = set r (to + i) (at r (e + i))

-- of the first e rows of r those that are kept stand in front of x; the rows from e on are where they were
pub record Upto (m e : ℕ) (r x : List Float) : Type 0 where
  pub size : length x ≡ length r
  pub done : (i : ℕ) → i < e → left_out m i ≡ false → at x (place m i) ≡ at r i
  pub rest : (i : ℕ) → e ≤ i → at x i ≡ at r i

-- the first six rows stand where they are
pub upto_first : (m : ℕ) (r : List Float) → Upto m 6 r r
upto_first m r = record { size = refl; done = λ i h k. ap (at r) (by (eqb m 79) i h); rest = λ i h. refl }
  where
    by : (b : Bool) (i : ℕ) → i < 6 → i - before_by b i ≡ i
    by true i h = omega arith
    by false i h = omega arith

module _ (m : ℕ) (r : List Float) where
  -- rows left out are passed over
  pub upto_out : (e f : ℕ) (x : List Float) → e ≤ f → ((i : ℕ) → e ≤ i → i < f → left_out m i ≡ true) → Upto m e r x → Upto m f r x
  upto_out e f x h out u = record { size = u.size; done = λ i l k. by i l k (ltb i e) refl; rest = λ i l. u.rest i (omega arith) }
    where
      by : (i : ℕ) → i < f → left_out m i ≡ false → (b : Bool) → ltb i e ≡ b → at x (place m i) ≡ at r i
      by i l k true q = u.done i (ltb-true i e q) k
      by i l k false q = absurd (true≢false (sym (out i (ltb-false i e q) l) ∙ k))

  -- a kept row goes to its place
  stored : (e : ℕ) (x : List Float) (to : ℕ) → to ≡ place m e → left_out m e ≡ false → e < length r → Upto m e r x → Upto m (suc e) r (set x to (at x e))
  stored e x to here k room u =
      let low : place m e ≤ e = omega arith in
      let own : at (set x to (at x e)) (place m e) ≡ at r e = rw (← here) (get_or-set_same x to (at x e) nan (omega (arith, u.size))) ∙ u.rest e (omega arith) in
      record {
        size = length-set x to (at x e) ∙ u.size;
        done = λ i h q. below_more (λ j. left_out m j ≡ false → at (set x to (at x e)) (place m j) ≡ at r j) e (λ j l p. other j l p ∙ u.done j l p) (λ p. own) i (omega arith) q;
        rest = λ i h. get_or-set_other x to i (at x e) nan (λ j. omega arith) ∙ u.rest i (omega arith);
      }
    where
      other : (j : ℕ) → j < e → left_out m j ≡ false → at (set x to (at x e)) (place m j) ≡ at x (place m j)
      other j l p = get_or-set_other x to (place m j) (at x e) nan (λ q. let b : place m j < place m e = place_below m j e l p in omega (arith, here))

  -- n kept rows, one after the other
  pub upto_moved : (e : ℕ) (x : List Float) (to n : ℕ) → to ≡ place m e → ((i : ℕ) → e ≤ i → i < e + n → left_out m i ≡ false) → e + n ≤ length r → Upto m e r x
      → (to + n ≡ place m (e + n)) × Upto m (e + n) r (iter (move_turn e to) x n)
  unfolding iter
  upto_moved e x to zero here k room u = rw (add-zero e, add-zero to) (here, u)
  upto_moved e x to (suc n) here k room u =
      let h = upto_moved e x to n here (λ i a b. k i a (omega arith)) (omega arith) u in
      let own : left_out m (e + n) ≡ false = k (e + n) (omega arith) (omega arith) in
      rw (add-suc e n, add-suc to n)
      (ap suc h.0 ∙ sym (place_next m (e + n) own), stored (e + n) (iter (move_turn e to) x n) (to + n) h.0 own (omega arith) h.1)

-- ---- the rows of 79 and of 28
pub gathered_of : {m : ℕ} {r x : List Float} → Upto m m r x → Gathered m r x
gathered_of u = record { own = u.done }

module _ (r : List Float) where
  -- node k: its keep-out row is passed over, its three pointing rows follow
  pub upto_node : (k : ℕ) (x : List Float) → k < 17 → 79 ≤ length r → Upto 79 (6 + 4 * k) r x → Upto 79 (6 + 4 * (k + 1)) r (iter (move_turn (7 + 4 * k) (6 + 3 * k)) x 3)
  upto_node k x h room u =
      let next : 7 + 4 * k + 3 ≡ 6 + 4 * (k + 1) = omega arith in
      let passed : Upto 79 (7 + 4 * k) r x = upto_out 79 r (6 + 4 * k) (7 + 4 * k) x (omega arith) (λ i a b. node_out k i h a b) u in
      rw next at (upto_moved 79 r (7 + 4 * k) x (6 + 3 * k) 3 (omega arith) (λ i a b. point_kept k i a (omega arith)) (omega arith) passed).1

  -- the last five of 79
  pub gathered_long : (x : List Float) → 79 ≤ length r → Upto 79 74 r x → Gathered 79 r (iter (move_turn 74 57) x 5)
  gathered_long x room u = gathered_of (upto_moved 79 r 74 x 57 5 refl (λ i a b. last_kept i a) room u).1
