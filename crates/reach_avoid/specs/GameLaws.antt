-- The theorems of a game: what `wins` says of plays. Assumes nothing.
use Prim.Native.Nat.{ℕ, zero, suc, ◌-◌, ◌<◌, ◌≤◌}
use native.Mathlib.Omega.{arith}
use Rattle.std.specs.Prelude.{◌≡◌, Bool, not, ◌&&◌, ◌||◌}
use Rattle.std.proofs.Math.Path.{refl, fun_ext}
use Rattle.std.proofs.Common.{ap}
use Rattle.std.proofs.Math.Bool.{true, false}
use Rattle.std.proofs.Math.Dec.{ltb, eqb}
use borrow.Author.Tests.{ltb-true, ltb-false, eqb-true, eqb-false, eq-eqb}
use Rattle.reach_avoid.specs.LeastLaws.{least_is, least_none, least_some, clash, and_true}
use Rattle.reach_avoid.specs.Game.{Game, Play, rest, state, Fair, Kept, ForcedBy, HeldOffFor, DriveBy, DraughtBy, keeps, least, answer, choice, wins}

or_false : (a b : Bool) → (a || b) ≡ false → (a ≡ false) × (b ≡ false)
or_false true b e = absurd (clash refl e)
or_false false b e = (refl, e)

not_is : (b c : Bool) → not b ≡ c → b ≡ not c
not_is true true e = absurd (clash e refl)
not_is true false e = refl
not_is false true e = refl
not_is false false e = absurd (clash refl e)

module _ {S U D : Type 0} (G : Game S U D) where
  pub fair_rest : (p : Play U D) → Fair G p → Fair G (rest p)
  fair_rest p f = record { by_drive = λ k. f.by_drive (suc k); by_draught = λ k. f.by_draught (suc k) }

  -- a state comes of the one before
  pub state_next_law : (s : S) (p : Play U D) (k : ℕ) → state G s p (suc k) ≡ G.next (state G s p k) (p.us k) (p.ds k)
  state_next_law s p zero = refl
  state_next_law s p (suc k) = state_next_law (G.next s (p.us 0) (p.ds 0)) (rest p) k

  module _ (won : S → Bool) (s : S) where
    -- each lower reply keeps the drive winning
    pub before_answer : (u : U) (j : ℕ) → j < answer G won s u → keeps G won s u (G.draught j) ≡ true
    before_answer u j h = not_is _ false ((least_is (λ j. not (keeps G won s u (G.draught j))) G.draughts).before j h)

    -- where there is no reply, whatever the draught may choose keeps the drive winning
    pub no_answer : (u : U) → eqb (answer G won s u) G.draughts ≡ true → (j : ℕ) → j < G.draughts → keeps G won s u (G.draught j) ≡ true
    no_answer u e j h = let q : answer G won s u ≡ G.draughts = eqb-true _ _ e in before_answer u j (omega arith)

    -- where there is one, it does what it is for
    pub has_answer : (u : U) → answer G won s u < G.draughts → keeps G won s u (G.draught (answer G won s u)) ≡ false
    has_answer u h = not_is _ true ((least_is (λ j. not (keeps G won s u (G.draught j))) G.draughts).here h)

    answer_below : (u : U) → eqb (answer G won s u) G.draughts ≡ false → answer G won s u < G.draughts
    answer_below u e =
        let l = least_is (λ j. not (keeps G won s u (G.draught j))) G.draughts in
        let ne : answer G won s u ≡ G.draughts → ⊥ = eqb-false _ _ e in omega (arith, l.within)

    pub chosen : choice G won s < G.drives → eqb (answer G won s (G.drive (choice G won s))) G.draughts ≡ true
    chosen h = (least_is (λ i. eqb (answer G won s (G.drive i)) G.draughts) G.drives).here h

    -- to each lower choice there is a reply
    pub lower : (i : ℕ) → i < choice G won s → answer G won s (G.drive i) < G.draughts
    lower i h = answer_below (G.drive i) ((least_is (λ i. eqb (answer G won s (G.drive i)) G.draughts) G.drives).before i h)

  -- home already
  pub wins_home : (n : ℕ) (s : S) → wins G n s ≡ false → G.home s ≡ false
  unfolding wins
  wins_home zero s e = e
  wins_home (suc n) s e = (or_false (G.home s) _ e).0

  module _ (won more : S → Bool) (up : (s : S) → won s ≡ true → more s ≡ true) (s : S) where
    keeps_up : (u : U) (d : D) → keeps G won s u d ≡ true → keeps G more s u d ≡ true
    keeps_up u d e = let h = and_true (G.inside (G.next s u d)) _ e in rw h.0 (up (G.next s u d) h.1)

    -- who wins from more states has a choice where there was one
    choice_up : ltb (choice G won s) G.drives ≡ true → ltb (choice G more s) G.drives ≡ true
    choice_up e =
        let i = choice G won s in
        let h : i < G.drives = ltb-true _ _ e in
        least_some (λ i. eqb (answer G more s (G.drive i)) G.draughts) G.drives i h
        (eq-eqb _ _ (least_none (λ j. not (keeps G more s (G.drive i) (G.draught j))) G.draughts
        (λ j l. ap not (keeps_up (G.drive i) (G.draught j) (no_answer won s (G.drive i) (chosen won s h) j l)))))

  -- what is won in n turns is won in one more
  pub wins_more : (n : ℕ) (s : S) → wins G n s ≡ true → wins G (suc n) s ≡ true
  unfolding wins
  wins_more zero s e = rw e
  wins_more (suc n) s e = by (wins_more n) (G.home s) e
    where
      by : ((s : S) → wins G n s ≡ true → wins G (suc n) s ≡ true) → (b : Bool) → (b || ltb (choice G (wins G n) s) G.drives) ≡ true → (b || ltb (choice G (wins G (suc n)) s) G.drives) ≡ true
      by up true e = refl
      by up false e = choice_up (wins G n) (wins G (suc n)) up s e

  -- the choice hangs on the states inside alone
  module _ (won more : S → Bool) (same : (s : S) → G.inside s ≡ true → won s ≡ more s) (s : S) where
    keeps_same : (u : U) (d : D) → keeps G won s u d ≡ keeps G more s u d
    keeps_same u d = by (G.inside (G.next s u d)) refl
      where
        by : (b : Bool) → G.inside (G.next s u d) ≡ b → (b && won (G.next s u d)) ≡ (b && more (G.next s u d))
        by true e = same (G.next s u d) e
        by false e = refl

    pub answer_same : (u : U) → answer G won s u ≡ answer G more s u
    answer_same u = ap (λ p. least p G.draughts) (fun_ext (λ j. ap not (keeps_same u (G.draught j))))

    pub choice_same : choice G won s ≡ choice G more s
    choice_same = ap (λ p. least p G.drives) (fun_ext (λ i. ap (λ r. eqb r G.draughts) (answer_same (G.drive i))))

  -- the start, and one turn more
  kept_none : (s : S) (p : Play U D) → G.inside s ≡ true → Kept G s p 0
  kept_none s p e zero l = e
  kept_none s p e (suc j) l = absurd (omega arith)

  kept_more : (s : S) (p : Play U D) (k : ℕ) → G.inside s ≡ true → Kept G (G.next s (p.us 0) (p.ds 0)) (rest p) k → Kept G s p (suc k)
  kept_more s p k e h zero l = e
  kept_more s p k e h (suc j) l = h j (omega arith)

  -- The drive that goes by advice A comes home, whatever the draught does, if A advises the lowest choice for the fewest turns.
  module _ (A : S → U → Type 0) (N : ℕ) (advised : (m : ℕ) (s : S) → m < N → G.inside s ≡ true → wins G m s ≡ false → wins G (suc m) s ≡ true → A s (G.drive (choice G (wins G m) s))) where
    forces_turn : (n : ℕ) (s : S) (p : Play U D) → n < N → G.inside s ≡ true → wins G n s ≡ false → wins G (suc n) s ≡ true → Fair G p → DriveBy G A s p
        → ((s : S) (p : Play U D) → G.inside s ≡ true → wins G n s ≡ true → Fair G p → DriveBy G A s p → ForcedBy G n s p) → ForcedBy G (suc n) s p
    unfolding wins
    forces_turn n s p h e x w f a ih =
        let c : choice G (wins G n) s < G.drives = ltb-true _ _ (rw (wins_home n s x) at w) in
        let u : p.us 0 ≡ G.drive (choice G (wins G n) s) = a 0 _ (advised n s h e x w) in
        let d = f.by_draught 0 in
        let k : keeps G (wins G n) s (p.us 0) (p.ds 0) ≡ true = rw (u, d.2) (no_answer (wins G n) s _ (chosen (wins G n) s c) d.0 d.1) in
        let t = and_true (G.inside (G.next s (p.us 0) (p.ds 0))) _ k in
        let r = ih (G.next s (p.us 0) (p.ds 0)) (rest p) t.0 t.1 (fair_rest p f) (λ k u. a (suc k) u) in
        (suc r.0, omega (arith, r.1), r.2, kept_more s p r.0 e r.3)

    pub forces : (n : ℕ) (s : S) (p : Play U D) → n ≤ N → G.inside s ≡ true → wins G n s ≡ true → Fair G p → DriveBy G A s p → ForcedBy G n s p
    unfolding wins
    forces zero s p h e w f a = (0, omega arith, w, kept_none s p e)
    forces (suc n) s p h e w f a = by (λ s p. forces n s p (omega arith)) (wins G n s) refl
      where
        by : ((s : S) (p : Play U D) → G.inside s ≡ true → wins G n s ≡ true → Fair G p → DriveBy G A s p → ForcedBy G n s p) → (b : Bool) → wins G n s ≡ b → ForcedBy G (suc n) s p
        by ih true q = let r = ih s p e q f a in (r.0, omega (arith, r.1), r.2, r.3)
        by ih false q = forces_turn n s p (omega arith) e q w f a ih

  -- The draught that goes by advice B holds the drive off, whatever the drive does, if B advises a reply after which the drive does not win.
  module _ (B : S → ℕ → U → D → Type 0) (N : ℕ) (advised : (n : ℕ) (s : S) (i : ℕ) → n < N → i < G.drives → G.inside s ≡ true → G.home s ≡ false → answer G (wins G n) s (G.drive i) < G.draughts → B s (suc n) (G.drive i) (G.draught (answer G (wins G n) s (G.drive i)))) where
    -- a first turn to which there is a reply
    holds_turn : (n : ℕ) (s : S) (p : Play U D) (i : ℕ) → n < N → i < G.drives → G.inside s ≡ true → G.home s ≡ false → p.us 0 ≡ G.drive i
        → answer G (wins G n) s (G.drive i) < G.draughts → Fair G p → DraughtBy G B (suc n) s p
        → ((s : S) (p : Play U D) → G.inside s ≡ true → wins G n s ≡ false → Fair G p → DraughtBy G B n s p → HeldOffFor G n s p) → HeldOffFor G (suc n) s p
    holds_turn n s p i h c e o u l f b ih zero m k = o
    holds_turn n s p i h c e o u l f b ih (suc x) m k =
        let v : suc n - 0 ≡ suc n = omega arith in
        let d : p.ds 0 ≡ G.draught (answer G (wins G n) s (G.drive i)) = b 0 _ (omega arith) (rw (u, v) (advised n s i h c e o l)) in
        let y : keeps G (wins G n) s (p.us 0) (p.ds 0) ≡ false = rw (u, d) (has_answer (wins G n) s (G.drive i) l) in
        let z : G.inside (G.next s (p.us 0) (p.ds 0)) ≡ true = k 1 (omega arith) in
        ih (G.next s (p.us 0) (p.ds 0)) (rest p) z (rw z at y) (fair_rest p f)
        (λ k d g a. b (suc k) d (omega arith) (let v : suc n - suc k ≡ n - k = omega arith in rw v a)) x (omega arith) (λ j g. k (suc j) (omega arith))

    pub holds : (n : ℕ) (s : S) (p : Play U D) → n ≤ N → G.inside s ≡ true → wins G n s ≡ false → Fair G p → DraughtBy G B n s p → HeldOffFor G n s p
    unfolding wins
    holds zero s p h e w f b = λ x m k. let z : x ≡ 0 = omega arith in rw z w
    holds (suc n) s p h e w f b =
        let o = or_false (G.home s) _ w in
        let g : choice G (wins G n) s ≡ G.drives = omega (arith, ltb-false (choice G (wins G n) s) G.drives o.1, (least_is (λ i. eqb (answer G (wins G n) s (G.drive i)) G.draughts) G.drives).within) in
        let i = f.by_drive 0 in
        holds_turn n s p i.0 (omega arith) i.1 e o.0 i.2 (lower (wins G n) s i.0 (omega (arith, i.1))) f b (λ s p. holds n s p (omega arith))

    -- also where the first choice is lower than the one that comes home in n + 1 turns
    pub holds_lower : (n : ℕ) (s : S) (p : Play U D) (i : ℕ) → n < N → i < choice G (wins G n) s → G.inside s ≡ true → G.home s ≡ false → p.us 0 ≡ G.drive i → Fair G p → DraughtBy G B (suc n) s p → HeldOffFor G (suc n) s p
    holds_lower n s p i h c e o u f b =
        holds_turn n s p i h (omega (arith, (least_is (λ i. eqb (answer G (wins G n) s (G.drive i)) G.draughts) G.drives).within)) e o u (lower (wins G n) s i c) f b (λ s p. holds n s p (omega arith))
