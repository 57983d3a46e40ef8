-- The promises are kept: of every table and every budget, and of two budgets beside each other. Assumes nothing.
use Rattle.std.specs.Prelude.{ℕ, ◌-◌, ◌<◌, ◌≤◌, min, ◌≡◌, Bool, cond, List, ◌⊎◌, eqb, ltb, replicate}
use Rattle.std.proofs.Math.Path.{refl}
use Rattle.std.proofs.Common.{ap, sym, ◌∙◌, arith, eqb-true, ltb-true, ltb-false}
use Rattle.std.proofs.Math.Bool.{true, false}
use Rattle.std.proofs.Math.Logic.{inl, inr, ⊎_elim}
use Rattle.std.proofs.lemmas.Bool.{eqb-false}
use Rattle.common.specs.Iter.{iter}
use Rattle.common.specs.Answer as Answer
use Rattle.tile_order.specs.declared.Ordered.{Ordered}
use Rattle.tile_order.specs.Below.{sum}
use Rattle.tile_order.specs.SumLaws.{sum_none}
use Rattle.tile_order.specs.Tables.{refused, floor, Table}
use Rattle.tile_order.specs.Orders.{straight}
use Rattle.tile_order.specs.Search.{Progress, opening, search, visit}
use Rattle.tile_order.specs.Answers.{refusal, found, answer, of_ordered}
use Rattle.tile_order.specs.TableLaws.{table, table_taken}
use Rattle.tile_order.specs.OrderLaws.{Placed, zeros, straight_is, straight_part, cut, cost_cut}
use Rattle.tile_order.specs.ProgressLaws.{Sound, never, visit_sound}
use Rattle.tile_order.specs.LeastLaws.{visit_least}
use Rattle.tile_order.specs.MoreLaws.{visit_ahead, visit_nothing}
use Rattle.tile_order.specs.FloorLaws.{floor_le}
use Rattle.tile_order.specs.WaysLaws.{ways, ways_up, visit_ways}
use Rattle.tile_order.specs.Promises.{Promised}
use Rattle.common.specs.Refusals.{going}

-- the search begins with tile 0 placed, and with the order 0, 1, 2 and so on
begun : (n : ℕ) (t : List ℕ) → 1 ≤ n → Placed n t 0 (replicate 10 0) 0
begun n t h =
    record {
      part = record { first = refl; below = λ i l. rw (zeros i 10) h; apart = λ i j l k. absurd (omega arith) };
      long = refl;
      past = λ i l. zeros i 10;
      cost = sum_none _;
    }

starts : (n b : ℕ) (t : List ℕ) → Table n t → Sound n b t (opening n t)
starts n b t r =
    let f = straight_is n r.few in
    record { part = straight_part n r.some r.few; long = f.long; past = f.past; price = refl; within = omega arith; used = λ e. never false e refl }

-- such a table is answered
pub given : (n : ℕ) (t : List ℕ) (b : ℕ) → Table n t → of_ordered (answer n t b) ≡ Answer.Given (answer n t b).found
unfolding answer
given n t b r = rw (table_taken n t r)

-- and so
pub answered : (n : ℕ) (t : List ℕ) (b : ℕ) → Table n t → Promised n t b (answer n t b).found
unfolding answer
answered n t b r =
    rw (table_taken n t r)
    (record {
      order = cut n s.order h.long r.some r.few h.part;
      long = h.long;
      past = h.past;
      price = h.price ∙ sym (cost_cut n t s.order r.some);
      within = h.within;
      used = h.used;
      least = λ e o q. visit_least n b t r.few o q.part (n - 1) 0 _ 0 _ (omega arith) (begun n t r.some) (λ i l. let z : i ≡ 0 = omega arith in rw z q.part.first) e;
      bottom = λ o q. floor_le n t o r.some q.part;
      near = λ o q. omega (arith, floor_le n t o r.some q.part);
    })
  where
    s : Progress
    s = search n t b

    h : Sound n b t (search n t b)
    h = visit_sound n b t (n - 1) 0 _ 0 _ r.few (omega arith) (begun n t r.some) (starts n b t r)

-- anything else is refused, with zeros
refused_else : (n : ℕ) (t : List ℕ) (b : ℕ) → (Table n t → ⊥) → answer n t b ≡ refusal
unfolding answer
refused_else n t b no_table = by (refused n t) refl
  where
    by : (q : Bool) → refused n t ≡ q → cond (refused n t) refusal (found (search n t b) (floor n t)) ≡ refusal
    by true e = rw e
    by false e = absurd (no_table (table n t e))

-- with 25 at place 0, before any run
pub unanswered : (n : ℕ) (t : List ℕ) (b : ℕ) → (Table n t → ⊥) → of_ordered (answer n t b) ≡ Answer.Refused 25 0 0
unanswered n t b no_table = rw (refused_else n t b no_table)

-- the answers of two budgets: one answer, or the smaller budget was used up, and the larger gives no dearer order and, where it is larger, has placed more
abbrev Between : ℕ → ℕ → Ordered → Ordered → Type 0
Between b b' x y = (y ≡ x) ⊎ ((x.found.exhausted ≡ true) × (y.found.cost ≤ x.found.cost) × (b < b' → x.found.placed < y.found.placed))

module _ (n : ℕ) (t : List ℕ) (b b' : ℕ) (up : b ≤ b') where
  between : Between b b' (answer n t b) (answer n t b')
  unfolding answer
  between = by (refused n t)
    where
      by : (q : Bool) → Between b b' (cond q refusal (found (search n t b) (floor n t))) (cond q refusal (found (search n t b') (floor n t)))
      by true = inl refl
      by false = ⊎_elim (λ h. inl (ap (λ s. found s (floor n t)) (sym h.0))) inr (visit_ahead n b b' up t (n - 1) 0 _ 0 _ refl (omega arith))

  -- more budget never gives a dearer order
  pub more : (answer n t b').found.cost ≤ (answer n t b).found.cost
  more = ⊎_elim (λ e. rw e (omega arith)) (λ h. h.1) between

  -- a budget that was not used up answers as any above it
  pub settled : (answer n t b).found.exhausted ≡ false → answer n t b' ≡ answer n t b
  settled f = ⊎_elim (λ e. e) (λ h. never (answer n t b).found.exhausted h.0 f) between

  -- what a budget that was not used up placed is the need: a smaller budget was used up if it is below the need, and places the lesser of the two
  module _ (r : Table n t) (free : (answer n t b').found.exhausted ≡ false) where
    pub below_need : (answer n t b).found.exhausted ≡ true → b < (answer n t b').found.placed
    below_need f = by (ltb b b') refl
      where
        by : (q : Bool) → ltb b b' ≡ q → b < (answer n t b').found.placed
        by true e =
            ⊎_elim (λ g. never (answer n t b).found.exhausted f (rw g at free)) (λ g. omega (arith, g.2 (ltb-true b b' e), (answered n t b r).used f)) between
        by false e = let q : b' ≡ b = omega (arith, ltb-false b b' e) in never (answer n t b).found.exhausted f (rw q at free)

    pub placed_least : (answer n t b).found.placed ≡ min b (answer n t b').found.placed
    placed_least = by (answer n t b).found.exhausted refl
      where
        by : (q : Bool) → (answer n t b).found.exhausted ≡ q → (answer n t b).found.placed ≡ min b (answer n t b').found.placed
        by true e = omega (arith, (answered n t b r).used e, below_need e)
        by false e = rw (settled e) (omega (arith, (answered n t b r).within))

-- a budget of all the ways to place is not used up; ten tiles have 986,409
pub enough : (n : ℕ) (t : List ℕ) (b : ℕ) → Table n t → ways (n - 1) ≤ b → (answer n t b).found.exhausted ≡ false
unfolding answer
enough n t b r h = rw (table_taken n t r) (visit_ways n b t r.few (n - 1) 0 _ 0 (opening n t) (omega arith) (begun n t r.some) refl (omega arith)).0

pub enough_for_ten : (n : ℕ) (t : List ℕ) (b : ℕ) → Table n t → 986_409 ≤ b → (answer n t b).found.exhausted ≡ false
unfolding ways
enough_for_ten n t b r h = enough n t b r (omega (arith, ways_up (n - 1) 9 (omega (arith, r.few))))

-- with no budget the answer is 0, 1, 2 and so on
pub nothing : (n : ℕ) (t : List ℕ) → Table n t → (answer n t 0).found.order ≡ straight n
unfolding answer visit iter
nothing n t r = rw (table_taken n t r) (by (eqb n 1) refl)
  where
    by : (q : Bool) → eqb n 1 ≡ q → (search n t 0).order ≡ straight n
    by true e = let z : n ≡ 1 = eqb-true n 1 e in rw z
    by false e = let ne : n ≡ 1 → ⊥ = eqb-false n 1 e in visit_nothing n t (n - 1) 0 _ 0 _ (omega arith)

-- one tile
pub one : (t : List ℕ) (b : ℕ) → Table 1 t → answer 1 t b ≡ record { fate = going; found = record { order = replicate 10 0; cost = 0; placed = 0; exhausted = false; floor = 0 } }
unfolding answer visit sum
one t b r = rw (table_taken 1 t r)
