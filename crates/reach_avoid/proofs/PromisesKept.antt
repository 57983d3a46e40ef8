-- The promises hold of what is told. Assumes nothing.
use Rattle.std.specs.Prelude.{ℕ, zero, suc, ◌+◌, ◌-◌, ◌/◌, ◌%◌, ◌<◌, ◌≤◌, ◌≡◌, refl, Bool, true, false, cond, ◌&&◌, List, [], ◌∷◌, ◌++◌, Option, None, Some, Result, Ok, Err, ltb, leb, eqb, ℤ, pos, nat_abs, ◌+ℤ◌, get_or, take}
use Rattle.std.proofs.Common.{arith, sym, ap, ap₂, subst, ◌∙◌, inl, inr, take-suc, take_all}
use Rattle.std.proofs.Math.IntN.{sub_ℕ}
use Rattle.std.specs.Int.Signed.{lt_z}
use borrow.Author.Tests.{ltb-true, ltb-false, lt-ltb, le-ltb, eqb-true, eqb-false, leb-true}
use Rattle.reach_avoid.specs.LeastLaws.{clash, and_true}
use Rattle.reach_avoid.specs.WholeLaws.{sub_is, is_one, within_in, within_of, within_is, is_of, lt_of}
use Rattle.reach_avoid.specs.Game.{Play, Fair, keeps, answer, choice, wins, fewest, HeldOffFor}
use Rattle.reach_avoid.specs.GameLaws.{forces, holds, holds_lower, before_answer, has_answer, wins_home}
use Rattle.reach_avoid.specs.FewestLaws.{fewest_wins, fewest_home}
use Rattle.reach_avoid.specs.Room.{within, State, room, inside, home, next, telling, replying, out_of_range, outcome, reply, turns_of, state_at, turns_up_to, region}
use Rattle.reach_avoid.specs.RoomLaws.{tell_forced, outcome_in, outcome_out, reply_with, reply_in_law, turns_few}
use Rattle.reach_avoid.specs.Promises.{Lawful, DraughtFollows, Forces, HoldsOff, Right, OutcomePromise, Lost, ReplyPromise}
use Rattle.common.specs.Answer.{Given, Refused}
use Rattle.reach_avoid.specs.Answers.{Prospect, of_start}
use Rattle.reach_avoid.specs.TableInner.{Holds}
use Rattle.reach_avoid.specs.TableLaws.{spot_inside}
use Rattle.reach_avoid.specs.declared.StartOutcome.{StartOutcome}
use Rattle.reach_avoid.specs.declared.StartOutcome.TheVariants.{Home, Forced, HeldOff}
use Rattle.reach_avoid.specs.declared.OutOfRange.{OutOfRange}

last_true : (a b c d : Bool) → (a && b && c && d) ≡ true → d ≡ true
last_true true true true d e = e
last_true true true false d e = absurd (clash e refl)
last_true true false c d e = absurd (clash e refl)
last_true false b c d e = absurd (clash e refl)

-- a choice from -m to m, by its count
counted : (m : ℕ) (z : ℤ) → within m z ≡ true → (i : ℕ) × (i < m + m + 1) × (z ≡ sub_ℕ i m)
counted m z e = let i = within_is m z e in (nat_abs (z +ℤ pos m), omega (arith, (within_of m i e).1), is_one i (sub_is _ m))

pub fair : (p : Play ℤ ℤ) → Lawful p → Fair room p
fair p l = record { by_drive = λ k. counted 2 (p.us k) (l.by_drive k); by_draught = λ k. counted 1 (p.ds k) (l.by_draught k) }

drive_in : (i : ℕ) → i < 5 → within 2 (sub_ℕ i 2) ≡ true
drive_in i h = within_in 2 (sub_is i 2) (omega arith) (omega arith)

draught_in : (j : ℕ) → j < 3 → within 1 (sub_ℕ j 1) ≡ true
draught_in j h = within_in 1 (sub_is j 1) (omega arith) (omega arith)

-- the answers advise what the theorems ask for
drive_advised : (m : ℕ) (s : State) → m < 64 → inside s ≡ true → wins room m s ≡ false → wins room (suc m) s ≡ true
    → (n : ℕ) × (outcome s ≡ Ok (Forced n (room.drive (choice room (wins room m) s))))
drive_advised m s h i f t =
    let a : suc m ≤ fewest room 255 64 s = ltb-false _ _ (fewest_wins room 255 s 64 (omega arith) m (omega arith) ∙ f) in
    let b : fewest room 255 64 s < suc (suc m) = ltb-true _ _ (fewest_wins room 255 s 64 (omega arith) (suc m) (omega arith) ∙ t) in
    let z : m ≡ suc m - 1 = omega arith in
    (suc m, sym (ap Ok (tell_forced s (omega arith) (λ q. omega arith) (λ q. omega arith) (ap (λ x. choice room (wins room x) s) z)) ∙ outcome_in s i))

draught_advised : (n : ℕ) (s : State) (i : ℕ) → n < 64 → i < 5 → inside s ≡ true → home s ≡ false → answer room (wins room n) s (room.drive i) < 3
    → reply s (suc n) (room.drive i) ≡ Ok (Some (room.draught (answer room (wins room n) s (room.drive i))))
draught_advised n s i h l e o a =
    let z : n ≡ suc n - 1 = omega arith in
    sym (ap Ok (reply_with (suc n) s (room.drive i) o (ap (λ x. answer room (wins room x) s (room.drive i)) z) a) ∙ reply_in_law s (suc n) (room.drive i) e (drive_in i l) (omega arith) (omega arith))

pub forced : (n : ℕ) (s : State) → n ≤ 64 → inside s ≡ true → wins room n s ≡ true → Forces n s
forced n s h i w p l f = forces room (λ t u. (n : ℕ) × (outcome t ≡ Ok (Forced n u))) 64 drive_advised n s p h i w (fair p l) f

pub held : (n : ℕ) (s : State) → n ≤ 64 → inside s ≡ true → wins room n s ≡ false → HoldsOff n s
held n s h i w p l f = holds room (λ t m u d. reply t m u ≡ Ok (Some d)) 64 draught_advised n s p h i w (fair p l) f

-- a start that is won in m + 1 turns and not in m
module _ (m : ℕ) (s : State) (h : m < 64) (i : inside s ≡ true) (f : wins room m s ≡ false) (t : wins room (suc m) s ≡ true) where
  some_choice : choice room (wins room m) s < 5
  unfolding wins
  some_choice = ltb-true _ _ (rw (wins_home room m s f) at t)

  lower_held : (v : ℤ) → within 2 v ≡ true → lt_z v (room.drive (choice room (wins room m) s)) ≡ true → (p : Play ℤ ℤ) → Lawful p → p.us 0 ≡ v → DraughtFollows (suc m) s p → HeldOffFor room (suc m) s p
  lower_held v w l p a e d =
      let c = counted 2 v w in
      holds_lower room (λ t m u d. reply t m u ≡ Ok (Some d)) 64 draught_advised m s p c.0 h (lt_of l (is_of c.0 2 c.2) (sub_is _ 2)) i (wins_home room m s f) (e ∙ c.2) (fair p a) d

  right : Right s (suc m) (room.drive (choice room (wins room m) s))
  right =
      record {
        start = (i, wins_home room m s f);
        few = (omega arith, omega arith);
        lawful = drive_in (choice room (wins room m) s) some_choice;
        forces = forced (suc m) s (omega arith) i t;
        fewest = let z : m ≡ suc m - 1 = omega arith in subst (λ x. HoldsOff x s) z (held m s (omega arith) i f);
        lowest = lower_held;
      }

told_inside : (s : State) → inside s ≡ true → (n : ℕ) → n ≡ fewest room 255 64 s → (z h : Bool) → eqb n 0 ≡ z → eqb n 255 ≡ h
    → OutcomePromise s (Ok (cond z Home (cond h HeldOff (Forced n (room.drive (choice room (wins room (n - 1)) s))))))
told_inside s i n q true h e g = sym (fewest_home room 255 s 64 (omega arith)) ∙ lt-ltb (fewest room 255 64 s) 1 (let a : n ≡ 0 = eqb-true n 0 e in omega arith)
told_inside s i n q false true e g =
    let a : n ≡ 255 = eqb-true n 255 g in
    let w : wins room 64 s ≡ false = sym (fewest_wins room 255 s 64 (omega arith) 64 (omega arith)) ∙ le-ltb (fewest room 255 64 s) 65 (omega arith) in
    (i, wins_home room 64 s w, held 64 s (omega arith) i w)
told_inside s i n q false false e g =
    let a : n ≡ 0 → ⊥ = eqb-false n 0 e in
    let b : n ≤ 64 = turns_few s q (eqb-false n 255 g) in
    let c : suc (n - 1) ≡ n = omega arith in
    let w : (j : ℕ) → j ≤ 64 → ltb n (suc j) ≡ wins room j s = λ j l. ap (λ x. ltb x (suc j)) q ∙ fewest_wins room 255 s 64 (omega arith) j l in
    subst (λ x. Right s x (room.drive (choice room (wins room (n - 1)) s))) c
    (right (n - 1) s (omega arith) i (sym (w (n - 1) (omega arith)) ∙ le-ltb n (suc (n - 1)) (omega arith)) (sym (w (suc (n - 1)) (omega arith)) ∙ lt-ltb n (suc (suc (n - 1))) (omega arith)))

-- what is told of every state is right
pub told_right : (s : State) → OutcomePromise s (outcome s)
unfolding outcome
told_right s = by (inside s) refl
  where
    by : (b : Bool) → inside s ≡ b → OutcomePromise s (cond b (Ok (telling (fewest room 255 64 s) s)) (Err out_of_range))
    by true e = told_inside s e (fewest room 255 64 s) refl (eqb (fewest room 255 64 s) 0) (eqb (fewest room 255 64 s) 255) refl refl
    by false e = e

-- home is inside, so a start at home is told so
home_inside : (s : State) → home s ≡ true → inside s ≡ true
unfolding home inside
home_inside s e =
    let p = and_true (within 4 s.angle) (within 2 s.rate) e in
    let a = within_is 4 s.angle p.0 in
    let r = within_is 2 s.rate p.1 in
    let x = within_of 4 a p.0 in
    let y = within_of 2 r p.1 in
    rw (within_in 64 a (omega arith) (omega (arith, x.1))) (within_in 8 r (omega arith) (omega (arith, y.1)))

home_told : (s : State) (r : Result StartOutcome OutOfRange) → OutcomePromise s r → home s ≡ true → r ≡ Ok Home
home_told s (Ok Home) h e = refl
home_told s (Ok (Forced n u)) h e = absurd (clash e h.start.1)
home_told s (Ok HeldOff) h e = absurd (clash e h.1)
home_told s (Err o) h e = absurd (clash (home_inside s e) h)

pub home_only : (s : State) → home s ≡ true → outcome s ≡ Ok Home
home_only s = home_told s (outcome s) (told_right s)

-- what the entry ensures
pub tells : (s : State) {r : Result StartOutcome OutOfRange} → r ≡ outcome s → (r ≡ outcome s) × OutcomePromise s r
tells s e = (e, subst (OutcomePromise s) (sym e) (told_right s))

-- the drive goes on to win
lost : (s : State) (n : ℕ) (u d : ℤ) → n ≤ 64 → keeps room (wins room (n - 1)) s u d ≡ true → Lost s n u d
lost s n u d h e = let w = and_true (inside (next s u d)) _ e in (w.0, forced (n - 1) (next s u d) (omega arith) w.0 w.1)

replied_inside : (s : State) (n : ℕ) (u : ℤ) → n ≤ 64 → (o b : Bool) → home s ≡ o → ltb (answer room (wins room (n - 1)) s u) 3 ≡ b
    → ReplyPromise s n u (Ok (cond o None (cond b (Some (room.draught (answer room (wins room (n - 1)) s u))) None)))
replied_inside s n u h true b e q = inl e
replied_inside s n u h false true e q =
    let l : answer room (wins room (n - 1)) s u < 3 = ltb-true _ _ q in
    record {
      away = e;
      lawful = draught_in (answer room (wins room (n - 1)) s u) l;
      saves = λ i. held (n - 1) (next s u (room.draught (answer room (wins room (n - 1)) s u))) (omega arith) i (rw i at (has_answer room (wins room (n - 1)) s u l));
      lower = λ d w g.
          let c = counted 1 d w in
          lost s n u d h (rw c.2 (before_answer room (wins room (n - 1)) s u c.0 (lt_of g (is_of c.0 1 c.2) (sub_is _ 1))));
    }
replied_inside s n u h false false e q =
    let l : 3 ≤ answer room (wins room (n - 1)) s u = ltb-false _ _ q in
    inr (λ d w. let c = counted 1 d w in lost s n u d h (rw c.2 (before_answer room (wins room (n - 1)) s u c.0 (omega (arith, c.1)))))

-- and so is what is replied
pub replied_right : (s : State) (n : ℕ) (u : ℤ) → ReplyPromise s n u (reply s n u)
unfolding reply
replied_right s n u = by (inside s && within 2 u && leb 1 n && leb n 64) refl
  where
    by : (b : Bool) → (inside s && within 2 u && leb 1 n && leb n 64) ≡ b → ReplyPromise s n u (cond b (Ok (replying n s u)) (Err out_of_range))
    by true e = replied_inside s n u (leb-true n 64 (last_true (inside s) (within 2 u) (leb 1 n) (leb n 64) e)) (home s) (ltb (answer room (wins room (n - 1)) s u) 3) refl refl
    by false e = e

pub replies : (s : State) (n : ℕ) (u : ℤ) {r : Result (Option ℤ) OutOfRange} → r ≡ reply s n u → (r ≡ reply s n u) × ReplyPromise s n u r
replies s n u e = (e, subst (ReplyPromise s n u) (sym e) (replied_right s n u))

-- the turns that are told of a start inside are the fewest
turns_told : (n : ℕ) (s : State) (z h : Bool) → eqb n 0 ≡ z → eqb n 255 ≡ h → (u : ℤ) → turns_of (Ok (cond z Home (cond h HeldOff (Forced n u)))) ≡ n
turns_told n s true h e g u = sym (eqb-true n 0 e)
turns_told n s false true e g u = sym (eqb-true n 255 g)
turns_told n s false false e g u = refl

pub turns_of_law : (s : State) → inside s ≡ true → fewest room 255 64 s ≡ turns_of (outcome s)
turns_of_law s i = sym (turns_told (fewest room 255 64 s) s (eqb (fewest room 255 64 s) 0) (eqb (fewest room 255 64 s) 255) refl refl _) ∙ ap turns_of (outcome_in s i)

-- the table's first k entries
region_part : (t : List ℕ) → Holds 64 t → (k : ℕ) → k ≤ 2193 → take k t ≡ turns_up_to k
unfolding turns_up_to
region_part t h zero l = refl
region_part t h (suc k) l =
    let e : get_or t k 0 ≡ turns_of (outcome (state_at k)) = h.entry k (omega arith) ∙ turns_of_law (state_at k) (spot_inside (k / 17) (k % 17) (omega arith) (omega arith)) in
    take-suc t k 0 (omega (arith, h.size)) ∙ ap₂ (λ a b. a ++ b ∷ []) (region_part t h k (omega arith)) e

pub region_right : (t : List ℕ) → Holds 64 t → t ≡ region
region_right t h = sym (take_all 2193 t (omega (arith, h.size))) ∙ region_part t h 2193 (omega arith)

-- in the specification's numbers a start outside is 27, and no other is refused
pub outside_27 : (s : State) → inside s ≡ false → of_start (outcome s) ≡ Refused 27 0 0
outside_27 s e = ap of_start (sym (outcome_out s e))

given_by : (s : State) → inside s ≡ true → (r : Result StartOutcome OutOfRange) → OutcomePromise s r → (p : Prospect) × (of_start r ≡ Given p)
given_by s i (Ok Home) h = (_, refl)
given_by s i (Ok (Forced n u)) h = (_, refl)
given_by s i (Ok HeldOff) h = (_, refl)
given_by s i (Err e) h = absurd (clash i h)

pub inside_given : (s : State) → inside s ≡ true → (p : Prospect) × (of_start (outcome s) ≡ Given p)
inside_given s i = given_by s i (outcome s) (told_right s)
