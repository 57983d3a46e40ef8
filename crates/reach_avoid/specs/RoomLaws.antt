-- What is told, case by case. Assumes nothing.
use Rattle.std.specs.Prelude.{ℕ, suc, ◌-◌, ◌<◌, ◌≤◌, ◌≡◌, refl, Bool, true, false, cond, ◌&&◌, None, Some, Ok, Err, ltb, leb, ℤ}
use Rattle.std.proofs.Common.{arith, sym, ap, ◌∙◌, ⊎_elim, ne_eqb, lt-ltb, le-ltb, ltb-true, leb-true, le-leb}
use Rattle.reach_avoid.specs.Game.{answer, choice, wins, fewest}
use Rattle.reach_avoid.specs.GameLaws.{wins_home}
use Rattle.reach_avoid.specs.FewestLaws.{fewest_range, fewest_wins}
use Rattle.reach_avoid.specs.Room.{within, State, room, inside, home, telling, replying, out_of_range, outcome, reply}
use Rattle.reach_avoid.specs.declared.StartOutcome.TheVariants.{Home, Forced, HeldOff}

pub tell_home : {n : ℕ} (s : State) → n ≡ fewest room 255 64 s → n ≡ 0 → Home ≡ telling (fewest room 255 64 s) s
tell_home s e z = rw (← e) (rw z)

pub tell_held : {n : ℕ} (s : State) → n ≡ fewest room 255 64 s → n ≡ 255 → HeldOff ≡ telling (fewest room 255 64 s) s
tell_held s e z = rw (← e) (rw z)

pub tell_forced : {n i : ℕ} (s : State) → n ≡ fewest room 255 64 s → (n ≡ 0 → ⊥) → (n ≡ 255 → ⊥) → i ≡ choice room (wins room (n - 1)) s
    → Forced n (room.drive i) ≡ telling (fewest room 255 64 s) s
tell_forced {n} s e a b h = rw (← e) (rw (ne_eqb n 0 a) (rw (ne_eqb n 255 b) (rw h)))

pub reply_home : (n : ℕ) (s : State) (u : ℤ) → home s ≡ true → None ≡ replying n s u
reply_home n s u e = rw e

pub reply_with : {j : ℕ} (n : ℕ) (s : State) (u : ℤ) → home s ≡ false → j ≡ answer room (wins room (n - 1)) s u → j < 3 → Some (room.draught j) ≡ replying n s u
reply_with {j} n s u e h l = rw (e, ← h) (rw (lt-ltb j 3 l))

pub reply_without : {j : ℕ} (n : ℕ) (s : State) (u : ℤ) → home s ≡ false → j ≡ answer room (wins room (n - 1)) s u → 3 ≤ j → None ≡ replying n s u
reply_without {j} n s u e h l = rw (e, ← h) (rw (le-ltb j 3 l))

pub turns_few : {n : ℕ} (s : State) → n ≡ fewest room 255 64 s → (n ≡ 255 → ⊥) → n ≤ 64
turns_few {n} s e h = ⊎_elim (λ q. absurd (h (e ∙ q))) (λ q. omega arith) (fewest_range room 255 s 64)

-- where home is forced, some choice does it
pub some_choice : {n : ℕ} (s : State) → n ≡ fewest room 255 64 s → (n ≡ 0 → ⊥) → (n ≡ 255 → ⊥) → choice room (wins room (n - 1)) s < 5
unfolding wins
some_choice {n} s e z h =
    let l : n ≤ 64 = turns_few s e h in
    let m : suc (n - 1) ≡ n = omega arith in
    let w : (j : ℕ) → j ≤ 64 → ltb n (suc j) ≡ wins room j s = λ j g. ap (λ x. ltb x (suc j)) e ∙ fewest_wins room 255 s 64 (omega arith) j g in
    let f : wins room (n - 1) s ≡ false = sym (w (n - 1) (omega arith)) ∙ le-ltb n (suc (n - 1)) (omega arith) in
    let t : wins room (suc (n - 1)) s ≡ true = sym (w (suc (n - 1)) (omega arith)) ∙ lt-ltb n (suc (suc (n - 1))) (omega arith) in
    ltb-true _ _ (rw (wins_home room (n - 1) s f) at t)

-- the two entries' answers outside and inside
pub outcome_out : (s : State) → inside s ≡ false → Err out_of_range ≡ outcome s
unfolding outcome
outcome_out s e = rw e

pub outcome_in : (s : State) → inside s ≡ true → Ok (telling (fewest room 255 64 s) s) ≡ outcome s
unfolding outcome
outcome_in s e = rw e

pub reply_out : (s : State) (n : ℕ) (u : ℤ) → (inside s ≡ true → within 2 u ≡ true → 1 ≤ n → n ≤ 64 → ⊥) → Err out_of_range ≡ reply s n u
unfolding reply
reply_out s n u h = by (inside s) (within 2 u) (leb 1 n) (leb n 64) refl refl refl refl
  where
    by : (a b c d : Bool) → inside s ≡ a → within 2 u ≡ b → leb 1 n ≡ c → leb n 64 ≡ d → Err out_of_range ≡ cond (a && b && c && d) (Ok (replying n s u)) (Err out_of_range)
    by true true true true p q r t = absurd (h p q (leb-true 1 n r) (leb-true n 64 t))
    by true true true false p q r t = refl
    by true true false d p q r t = refl
    by true false c d p q r t = refl
    by false b c d p q r t = refl

pub reply_in_law : (s : State) (n : ℕ) (u : ℤ) → inside s ≡ true → within 2 u ≡ true → 1 ≤ n → n ≤ 64 → Ok (replying n s u) ≡ reply s n u
unfolding reply
reply_in_law s n u a b c d = rw (a, b, le-leb 1 n c, le-leb n 64 d)
