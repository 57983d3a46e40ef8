-- The table against the game. Assumes nothing.
use Prim.Native.Nat.{ℕ, suc, ◌+◌, ◌*◌, ◌-◌, ◌/◌, ◌%◌, ◌<◌, ◌≤◌}
use Rattle.std.proofs.Common.{arith, ap, ap₂, ◌∙◌, inl, inr, length-set, get_or-set_same, get_or-set_other}
use Rattle.std.specs.Prelude.{◌≡◌, Bool, not, ◌&&◌, ◌||◌, List, Option, None, Some, Ok, Err, MatchOption, ◌⊎◌, ℤ, pos, nat_abs, ◌+ℤ◌, length, set}
use Rattle.std.proofs.Math.Path.{refl, sym}
use Rattle.std.proofs.Math.Bool.{true, false, cond, and-false}
use Rattle.std.proofs.Math.Dec.{ltb, eqb}
use Rattle.std.proofs.Math.IntN.{sub_ℕ}
use Rattle.std.proofs.Math.ListN.{get_or}
use borrow.Author.Tests.{ltb-true, ltb-false, lt-ltb, le-ltb, eqb-true, eqb-false, eq-eqb, ne_eqb}
use Rattle.std.specs.Option.{is_some}
use Rattle.reach_avoid.specs.LeastLaws.{clash, and_true}
use Rattle.reach_avoid.specs.WholeLaws.{Is, sub_is, is_move, is_one, is_add, is_abs, within_in, within_of, within_is, Counted}
use Rattle.reach_avoid.specs.Game.{keeps, answer, choice, wins, fewest}
use Rattle.reach_avoid.specs.GameLaws.{answer_same, choice_same}
use Rattle.reach_avoid.specs.FewestLaws.{fewest_wins, fewest_home}
use Rattle.reach_avoid.specs.Room.{within, State, room, inside, home, next, spot, state_at, out_of_range}
use Rattle.reach_avoid.specs.TableInner.{cell, entry_of, below, stepped, Holds, Start, turns_at_value}

-- a state by its two differences
pub spot_of : {s : State} {x y : ℕ} → Is s.angle x 64 → Is s.rate y 8 → s ≡ spot x y
spot_of {x} {y} h k = λ i. record { angle = is_one h (sub_is x 64) i; rate = is_one k (sub_is y 8) i }

pub spot_inside : (x y : ℕ) → x ≤ 128 → y ≤ 16 → inside (spot x y) ≡ true
unfolding inside
spot_inside x y h k = rw (within_in 64 (sub_is x 64) (omega arith) (omega arith)) (within_in 8 (sub_is y 8) (omega arith) (omega arith))

pub cell_spot : (t : List ℕ) (x y : ℕ) → cell t (spot x y) ≡ get_or t (x * 17 + y) 0
unfolding cell
cell_spot t x y = ap₂ (λ a b. get_or t (a * 17 + b) 0) (is_abs 64 (sub_is x 64)) (is_abs 8 (sub_is y 8))

-- a state inside has an entry
pub record Entry (s : State) : Type 0 where
  pub x : ℕ
  pub y : ℕ
  pub low : x ≤ 128
  pub few : y ≤ 16
  pub is : s ≡ spot x y

pub entry_of_law : (s : State) → inside s ≡ true → Entry s
unfolding inside
entry_of_law s e =
    let p = and_true (within 64 s.angle) (within 8 s.rate) e in
    let a = within_is 64 s.angle p.0 in
    let b = within_is 8 s.rate p.1 in
    record {
      x = nat_abs (s.angle +ℤ pos 64);
      y = nat_abs (s.rate +ℤ pos 8);
      low = omega (arith, (within_of 64 a p.0).1);
      few = omega (arith, (within_of 8 b p.1).1);
      is = spot_of a b;
    }

pub spot_at : (x y : ℕ) → y ≤ 16 → state_at (x * 17 + y) ≡ spot x y
spot_at x y h = let d : (x * 17 + y) / 17 ≡ x = omega arith in let m : (x * 17 + y) % 17 ≡ y = omega arith in rw (d, m)

-- the state after one turn
module _ (x y i j : ℕ) where
  moved_rate : Is (next (spot x y) (room.drive i) (room.draught j)).rate (y + i + j) 11
  unfolding next
  moved_rate = is_add (is_add (sub_is y 8) (sub_is i 2)) (sub_is j 1)

  moved_angle : Is (next (spot x y) (room.drive i) (room.draught j)).angle (x + (y + i + j)) 75
  unfolding next
  moved_angle = is_add (sub_is x 64) (is_add (is_add (sub_is y 8) (sub_is i 2)) (sub_is j 1))

  pub after_in : (t : List ℕ) → 3 ≤ y + i + j → y + i + j ≤ 19 → 11 ≤ x + (y + i + j) → x + (y + i + j) ≤ 139
      → get_or t ((x + (y + i + j) - 11) * 17 + (y + i + j - 3)) 0 ≡ entry_of t (next (spot x y) (room.drive i) (room.draught j))
  unfolding entry_of
  after_in t a b c d =
      let r : ℕ = y + i + j in
      let s : next (spot x y) (room.drive i) (room.draught j) ≡ spot (x + r - 11) (r - 3) = spot_of (is_move (x + r - 11) 64 moved_angle (omega arith)) (is_move (r - 3) 8 moved_rate (omega arith)) in
      rw s (rw (spot_inside (x + r - 11) (r - 3) (omega arith) (omega arith)) (sym (cell_spot t (x + r - 11) (r - 3))))

  pub after_out : (t : List ℕ) → (3 ≤ y + i + j → y + i + j ≤ 19 → 11 ≤ x + (y + i + j) → x + (y + i + j) ≤ 139 → ⊥)
      → 255 ≡ entry_of t (next (spot x y) (room.drive i) (room.draught j))
  unfolding entry_of inside
  after_out t h = by (inside (next (spot x y) (room.drive i) (room.draught j))) refl
    where
      by : (b : Bool) → inside (next (spot x y) (room.drive i) (room.draught j)) ≡ b → 255 ≡ cond b (cell t (next (spot x y) (room.drive i) (room.draught j))) 255
      by true e =
          let p = and_true (within 64 (next (spot x y) (room.drive i) (room.draught j)).angle) _ e in
          let a = within_of 64 moved_angle p.0 in
          let r = within_of 8 moved_rate p.1 in
          absurd (h (omega (arith, r.0)) (omega (arith, r.1)) (omega (arith, a.0)) (omega (arith, a.1)))
      by false e = refl

-- the entries before any turn
pub first_in : (x y : ℕ) → 60 ≤ x → x ≤ 68 → 6 ≤ y → y ≤ 10 → 0 ≡ fewest room 255 0 (spot x y)
unfolding fewest home
first_in x y a b c d = rw (within_in 4 (sub_is x 64) (omega arith) (omega arith), within_in 2 (sub_is y 8) (omega arith) (omega arith))

pub first_out : (x y : ℕ) → (60 ≤ x → x ≤ 68 → 6 ≤ y → y ≤ 10 → ⊥) → 255 ≡ fewest room 255 0 (spot x y)
unfolding fewest home
first_out x y h = by (home (spot x y)) refl
  where
    by : (b : Bool) → home (spot x y) ≡ b → ◌≡◌ {A = ℕ} 255 (cond b 0 255)
    by true e =
        let p = and_true (within 4 (sub_ℕ x 64)) _ e in
        let a = within_of 4 (sub_is x 64) p.0 in
        let r = within_of 2 (sub_is y 8) p.1 in
        absurd (h (omega (arith, a.0)) (omega (arith, a.1)) (omega (arith, r.0)) (omega (arith, r.1)))
    by false e = refl

-- an entry below n is a state from which the drive still wins
pub entry_keeps : (t : List ℕ) (n : ℕ) (s : State) (u d : ℤ) → n ≤ 255 → ltb (entry_of t (next s u d)) n ≡ keeps room (below t n) s u d
unfolding entry_of below
entry_keeps t n s u d h = by (inside (next s u d))
  where
    by : (b : Bool) → ltb (cond b (cell t (next s u d)) 255) n ≡ (b && ltb (cell t (next s u d)) n)
    by true = refl
    by false = le-ltb 255 n h

-- the tests of the two searches: reply j serves against choice i; choice i has no such reply
abbrev pub serves : List ℕ → ℕ → State → ℕ → ℕ → Bool
serves t n s i j = not (keeps room (below t n) s (room.drive i) (room.draught j))

abbrev pub sure : List ℕ → ℕ → State → ℕ → Bool
sure t n s i = eqb (answer room (below t n) s (room.drive i)) 3

pub serves_by : (t : List ℕ) (n : ℕ) (s : State) (i j : ℕ) {e : ℕ} → n ≤ 255 → e ≡ entry_of t (next s (room.drive i) (room.draught j)) → serves t n s i j ≡ not (ltb e n)
serves_by t n s i j h q = ap not (sym (entry_keeps t n s (room.drive i) (room.draught j) h)) ∙ ap (λ x. not (ltb x n)) (sym q)

-- what a loop over the entries has stored so far: F below k, H from k on
pub record Stored (F H : ℕ → ℕ) (k : ℕ) (t : List ℕ) : Type 0 where
  pub size : length t ≡ 2193
  pub done : (x : ℕ) → x < k → get_or t x 0 ≡ F x
  pub ahead : (x : ℕ) → k ≤ x → x < 2193 → get_or t x 0 ≡ H x

pub stored_more : (F H : ℕ → ℕ) (k : ℕ) (t : List ℕ) (v : ℕ) → k < 2193 → Stored F H k t → v ≡ F k → Stored F H (k + 1) (set t k v)
stored_more F H k t v h s e =
    record {
      size = length-set t k v ∙ s.size;
      done = λ x l. by x l (eqb x k) refl;
      ahead = λ x l m. get_or-set_other t k x v 0 (λ q. omega arith) ∙ s.ahead x (omega arith) m;
    }
  where
    by : (x : ℕ) → x < k + 1 → (b : Bool) → eqb x k ≡ b → get_or (set t k v) x 0 ≡ F x
    by x l true q = let i : x ≡ k = eqb-true x k q in rw i (get_or-set_same t k v 0 (omega (arith, s.size)) ∙ e)
    by x l false q = let ne : x ≡ k → ⊥ = eqb-false x k q in get_or-set_other t k x v 0 ne ∙ s.done x (omega arith)

-- where each entry up to j is told from the others as the wins in j turns are, so are the states inside
pub below_by : (j : ℕ) (t : List ℕ) → ((x : ℕ) → x < 2193 → ltb (get_or t x 0) (suc j) ≡ wins room j (state_at x)) → (s : State) → inside s ≡ true → below t (suc j) s ≡ wins room j s
unfolding below
below_by j t h s e =
    let r = entry_of_law s e in
    rw r.is (rw (cell_spot t r.x r.y) (h (r.x * 17 + r.y) (omega (arith, r.low, r.few)) ∙ ap (wins room j) (spot_at r.x r.y r.few)))

-- where a sweep stands, an entry up to m is the same before and after its own step
module _ (m : ℕ) (few : m < 254) (k : ℕ) (t : List ℕ) (l : Stored (turns_at_value (suc m)) (turns_at_value m) k t) where
  entry_wins : (x : ℕ) → x < 2193 → ltb (get_or t x 0) (suc m) ≡ wins room m (state_at x)
  entry_wins x h = by (ltb x k) refl
    where
      by : (b : Bool) → ltb x k ≡ b → ltb (get_or t x 0) (suc m) ≡ wins room m (state_at x)
      by true e = rw (l.done x (ltb-true x k e)) (fewest_wins room 255 (state_at x) (suc m) (omega arith) m (omega arith))
      by false e = rw (l.ahead x (ltb-false x k e) h) (fewest_wins room 255 (state_at x) m (omega arith) m (omega arith))

  pub stepped_is : k < 2193 → stepped t k (suc m) ≡ turns_at_value (suc m) k
  unfolding stepped fewest wins
  stepped_is h =
      let c = choice_same room (below t (suc m)) (wins room m) (below_by m t entry_wins) (state_at k) in
      let g : get_or t k 0 ≡ turns_at_value m k = l.ahead k (omega arith) h in
      rw (c, g) (by (eqb (turns_at_value m k) 255) refl)
    where
      by : (b : Bool) → eqb (turns_at_value m k) 255 ≡ b → cond b (cond (ltb (choice room (wins room m) (state_at k)) 5) (suc m) 255) (turns_at_value m k) ≡ cond b (cond (home (state_at k) || ltb (choice room (wins room m) (state_at k)) 5) (suc m) 255) (turns_at_value m k)
      by true e =
          let q : turns_at_value m k ≡ 255 = eqb-true _ _ e in
          let z : home (state_at k) ≡ false = sym (fewest_home room 255 (state_at k) m (omega arith)) ∙ le-ltb (turns_at_value m k) 1 (omega arith) in rw z
      by false e = refl

-- what one step stores
pub stepped_old : (t : List ℕ) (k n : ℕ) → (get_or t k 0 ≡ 255 → ⊥) → get_or t k 0 ≡ stepped t k n
unfolding stepped
stepped_old t k n h = rw (ne_eqb (get_or t k 0) 255 h)

pub stepped_new : (t : List ℕ) (k n : ℕ) {i : ℕ} → get_or t k 0 ≡ 255 → i ≡ choice room (below t n) (state_at k) → cond (ltb i 5) n 255 ≡ stepped t k n
unfolding stepped
stepped_new t k n e h = rw (eq-eqb (get_or t k 0) 255 e, h)

-- what a search says that found nothing, or a number
pub none_of : {P : Type 0} (Q : ℕ → Type 0) (o : Option ℕ) → is_some o ≡ false → MatchOption o P Q → P
none_of Q None e m = m
none_of Q (Some x) e m = absurd (clash refl e)

pub some_of : (P : Type 0) (Q : ℕ → Type 0) (o : Option ℕ) → is_some o ≡ true → MatchOption o P Q → (x : ℕ) × Q x
some_of P Q None e m = absurd (clash e refl)
some_of P Q (Some x) e m = (x, m)

-- the whole table
module _ (t : List ℕ) (held : Holds 64 t) where
  pub held_wins : (n : ℕ) → 1 ≤ n → n ≤ 64 → (s : State) → inside s ≡ true → below t n s ≡ wins room (n - 1) s
  held_wins n h l =
      let e : suc (n - 1) ≡ n = omega arith in
      rw e at (below_by (n - 1) t (λ x b. rw (held.entry x b) (fewest_wins room 255 (state_at x) 64 (omega arith) (n - 1) (omega arith))))

  pub held_choice : (n : ℕ) → 1 ≤ n → n ≤ 64 → (s : State) → choice room (below t n) s ≡ choice room (wins room (n - 1)) s
  held_choice n h l s = choice_same room (below t n) (wins room (n - 1)) (held_wins n h l) s

  pub held_answer : (n : ℕ) → 1 ≤ n → n ≤ 64 → (s : State) (u : ℤ) → answer room (below t n) s u ≡ answer room (wins room (n - 1)) s u
  held_answer n h l s u = answer_same room (below t n) (wins room (n - 1)) (held_wins n h l) s u

  home_by : (k : ℕ) → k < 2193 → home (state_at k) ≡ ltb (get_or t k 0) 1
  home_by k h = rw (held.entry k h) (sym (fewest_home room 255 (state_at k) 64 (omega arith)))

  pub held_home : (k : ℕ) → k < 2193 → get_or t k 0 ≡ 0 → home (state_at k) ≡ true
  held_home k h e = home_by k h ∙ lt-ltb (get_or t k 0) 1 (omega arith)

  pub held_away : (k : ℕ) → k < 2193 → (get_or t k 0 ≡ 0 → ⊥) → home (state_at k) ≡ false
  held_away k h e = home_by k h ∙ le-ltb (get_or t k 0) 1 (omega arith)

-- a start's entry from its two counts
pub start_of : (s : State) {x y : ℕ} → Counted 64 s.angle (Ok x) → Counted 8 s.rate (Ok y) → Start s (Ok (x * 17 + y))
unfolding inside
start_of s {x} {y} p q = (omega (arith, p.2, q.2), rw p.0 q.0, spot_of p.1 q.1 ∙ sym (spot_at x y (omega (arith, q.2))))

pub start_out : (s : State) → (within 64 s.angle ≡ false) ⊎ (within 8 s.rate ≡ false) → Start s (Err out_of_range)
unfolding inside
start_out s (inl e) = rw e
start_out s (inr e) = rw e (and-false (within 64 s.angle))
