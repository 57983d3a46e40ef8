-- Laws of orders: one tile more, the order 0, 1, 2 and so on, the first n of ten places. Assumes nothing.
use Rattle.std.specs.Prelude.{ℕ, zero, suc, ◌+◌, ◌-◌, ◌<◌, ◌≤◌, ◌≡◌, refl, false, List, length, get_or, set, replicate, take}
use Rattle.std.proofs.Common.{sym, ◌∙◌, arith, length-set, get_or-set_same, get_or-set_other, get_or-take, length-take-le, below_more}
use Rattle.std.proofs.lemmas.Bool.{eqb-false}
use Rattle.tile_order.specs.LoopLaws.{iter_ind}
use Rattle.tile_order.specs.AnyLaws.{any_fails}
use Rattle.tile_order.specs.SumLaws.{sum_same, sum_more}
use Rattle.tile_order.specs.Tables.{time}
use Rattle.tile_order.specs.Orders.{Part, Order, legs, cost, straight}
use Rattle.tile_order.specs.Search.{seen}

-- the tiles placed so far, in ten places: the first j + 1 are a part, those past n hold 0, and c is what they cost
pub record Placed (n : ℕ) (t : List ℕ) (j : ℕ) (p : List ℕ) (c : ℕ) : Type 0 where
  pub part : Part n p (j + 1)
  pub long : length p ≡ 10
  pub past : (i : ℕ) → n ≤ i → get_or p i 0 ≡ 0
  pub cost : c ≡ legs n t p j

-- orders that agree in their first k + 1 places cost the same up to there
pub legs_same : (n : ℕ) (t o p : List ℕ) (k : ℕ) → ((i : ℕ) → i < k + 1 → get_or o i 0 ≡ get_or p i 0) → legs n t o k ≡ legs n t p k
legs_same n t o p k h = sum_same _ _ k (λ i l. rw (h i (omega arith), h (i + 1) (omega arith)))

-- one tile more
module _ (n : ℕ) (t : List ℕ) (j : ℕ) (p : List ℕ) (c x : ℕ) (r : Placed n t j p c) (room : j + 1 < n) (few : n ≤ 10) (within : x < n) (new : seen p (j + 1) x ≡ false) where
  pub own : get_or (set p (j + 1) x) (j + 1) 0 ≡ x
  own = get_or-set_same p (j + 1) x 0 (omega (arith, r.long))

  pub other : (i : ℕ) → (i ≡ j + 1 → ⊥) → get_or (set p (j + 1) x) i 0 ≡ get_or p i 0
  other i ne = get_or-set_other p (j + 1) i x 0 ne

  differs : (i : ℕ) → i < j + 1 → get_or p i 0 ≡ x → ⊥
  differs i l = eqb-false _ _ (any_fails _ i (j + 1) l new)

  longer : Part n (set p (j + 1) x) (j + 1 + 1)
  longer = record {
    first = other 0 (λ e. omega arith) ∙ r.part.first;
    below = below_more (λ i. get_or (set p (j + 1) x) i 0 < n) (j + 1) (λ i l. rw (other i (λ e. omega arith)) (r.part.below i l)) (rw own within);
    apart = λ i k h l. below_more (λ m. i < m → get_or (set p (j + 1) x) i 0 ≡ get_or (set p (j + 1) x) m 0 → ⊥) (j + 1)
        (λ m g a. rw (other i (λ e. omega arith), other m (λ e. omega arith)) (r.part.apart i m a g))
        (λ a. rw (other i (λ e. omega arith), own) (differs i a)) k l h;
  }

  pub placed_more : Placed n t (j + 1) (set p (j + 1) x) (c + time n t (get_or p j 0) x)
  placed_more = record {
    part = longer;
    long = length-set p (j + 1) x ∙ r.long;
    past = λ i l. other i (λ e. omega arith) ∙ r.past i l;
    cost = sum_more _ j (r.cost ∙ sym (legs_same n t (set p (j + 1) x) p j (λ i l. other i (λ e. omega arith)))) (sym (rw (own, other j (λ e. omega arith))));
  }

-- ---- 0, 1, 2 and so on

-- ten places, of which the first k are filled
pub record Filled (k : ℕ) (o : List ℕ) : Type 0 where
  pub long : length o ≡ 10
  pub here : (i : ℕ) → i < k → get_or o i 0 ≡ i
  pub past : (i : ℕ) → k ≤ i → get_or o i 0 ≡ 0

pub zeros : (i m : ℕ) → ◌≡◌ {A = ℕ} (get_or (replicate m 0) i 0) 0
zeros i zero = refl
zeros zero (suc m) = refl
zeros (suc i) (suc m) = zeros i m

fill : (k : ℕ) (o : List ℕ) → k < 10 → Filled k o → Filled (suc k) (set o k k)
fill k o l r =
    let s = get_or-set_same o k k 0 (omega (arith, r.long)) in
    record {
      long = length-set o k k ∙ r.long;
      here = λ i h. below_more (λ m. get_or (set o k k) m 0 ≡ m) k (λ m g. get_or-set_other o k m k 0 (λ e. omega arith) ∙ r.here m g) s i (omega arith);
      past = λ i h. get_or-set_other o k i k 0 (λ e. omega arith) ∙ r.past i (omega arith);
    }

pub straight_is : (n : ℕ) → n ≤ 10 → Filled n (straight n)
straight_is n h =
    iter_ind Filled (λ i o. set o i i) (replicate 10 0) n
    (record { long = refl; here = λ i l. absurd (omega arith); past = λ i l. zeros i 10 })
    (λ k o l. fill k o (omega arith))

pub straight_part : (n : ℕ) → 1 ≤ n → n ≤ 10 → Part n (straight n) n
straight_part n h l =
    let r = straight_is n l in
    record {
      first = r.here 0 h;
      below = λ i g. rw (r.here i g) g;
      apart = λ i j a g e. let q : i ≡ j = sym (r.here i (omega arith)) ∙ e ∙ r.here j g in omega arith;
    }

-- the first n of ten places
pub cut : (n : ℕ) (o : List ℕ) → length o ≡ 10 → 1 ≤ n → n ≤ 10 → Part n o n → Order n (take n o)
cut n o e s f r =
    let g : (i : ℕ) → i < n → get_or (take n o) i 0 ≡ get_or o i 0 = λ i l. get_or-take n o i 0 l in
    record {
      long = length-take-le n o (omega arith);
      part = record {
        first = g 0 s ∙ r.first;
        below = λ i l. rw (g i l) (r.below i l);
        apart = λ i j a l. rw (g i (omega arith), g j l) (r.apart i j a l);
      };
    }

pub cost_cut : (n : ℕ) (t o : List ℕ) → 1 ≤ n → cost n t (take n o) ≡ cost n t o
cost_cut n t o s = legs_same n t (take n o) o (n - 1) (λ i l. get_or-take n o i 0 (omega arith))
