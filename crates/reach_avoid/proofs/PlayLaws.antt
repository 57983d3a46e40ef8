-- There is a play for every way of the other side: whoever follows an answer always can. Assumes nothing.
use Rattle.std.specs.Prelude.{ℕ, zero, suc, ◌-◌, ◌≡◌, refl, true, Option, None, Some, Result, Ok, Err, ℤ, pos}
use Rattle.std.proofs.Common.{arith, sym, ap, subst, ◌∙◌}
use Rattle.reach_avoid.specs.Game.{Game, Play, state}
use Rattle.reach_avoid.specs.Room.{within, State, room, outcome, reply}
use Rattle.reach_avoid.specs.Promises.{Lawful, DriveFollows, DraughtFollows, OutcomePromise, ReplyPromise}
use Rattle.reach_avoid.proofs.PromisesKept.{told_right, replied_right}
use Rattle.reach_avoid.specs.declared.StartOutcome.{StartOutcome}
use Rattle.reach_avoid.specs.declared.StartOutcome.TheVariants.{Home, Forced, HeldOff}
use Rattle.reach_avoid.specs.declared.OutOfRange.{OutOfRange}

module _ {S U D : Type 0} (G : Game S U D) where
  -- the drive's choices by a rule on states, against given replies
  abbrev driven : (S → U) → S → (ℕ → D) → ℕ → U
  driven σ s ds zero = σ s
  driven σ s ds (suc k) = driven σ (G.next s (σ s) (ds 0)) (λ j. ds (suc j)) k

  driven_is : (σ : S → U) (s : S) (ds : ℕ → D) (k : ℕ) → driven σ s ds k ≡ σ (state G s (record { us = driven σ s ds; ds = ds }) k)
  driven_is σ s ds zero = refl
  driven_is σ s ds (suc k) = driven_is σ (G.next s (σ s) (ds 0)) (λ j. ds (suc j)) k

  -- the draught's by a rule on states, turns left and choices, against given choices
  abbrev drawn : (S → ℕ → U → D) → ℕ → S → (ℕ → U) → ℕ → D
  drawn τ n s us zero = τ s n (us 0)
  drawn τ n s us (suc k) = drawn τ (n - 1) (G.next s (us 0) (τ s n (us 0))) (λ j. us (suc j)) k

  drawn_is : (τ : S → ℕ → U → D) (n : ℕ) (s : S) (us : ℕ → U) (k : ℕ) → drawn τ n s us k ≡ τ (state G s (record { us = us; ds = drawn τ n s us }) k) (n - k) (us k)
  drawn_is τ n s us zero = let e : n ≡ n - 0 = omega arith in ap (λ m. τ s m (us 0)) e
  drawn_is τ n s us (suc k) =
      let e : n - 1 - k ≡ n - suc k = omega arith in
      drawn_is τ (n - 1) (G.next s (us 0) (τ s n (us 0))) (λ j. us (suc j)) k ∙ ap (λ m. τ (state G s (record { us = us; ds = drawn τ n s us }) (suc k)) m (us (suc k))) e

-- the choice that is told, and 0 where none is; so of the reply
abbrev choice_in : Result StartOutcome OutOfRange → ℤ
choice_in (Ok Home) = pos 0
choice_in (Ok (Forced n u)) = u
choice_in (Ok HeldOff) = pos 0
choice_in (Err e) = pos 0

abbrev reply_in : Result (Option ℤ) OutOfRange → ℤ
reply_in (Ok (Some d)) = d
reply_in (Ok None) = pos 0
reply_in (Err e) = pos 0

choice_lawful : (s : State) (r : Result StartOutcome OutOfRange) → OutcomePromise s r → within 2 (choice_in r) ≡ true
choice_lawful s (Ok Home) h = refl
choice_lawful s (Ok (Forced n u)) h = h.lawful
choice_lawful s (Ok HeldOff) h = refl
choice_lawful s (Err e) h = refl

reply_lawful : (s : State) (n : ℕ) (u : ℤ) (r : Result (Option ℤ) OutOfRange) → ReplyPromise s n u r → within 1 (reply_in r) ≡ true
reply_lawful s n u (Ok (Some d)) h = h.lawful
reply_lawful s n u (Ok None) h = refl
reply_lawful s n u (Err e) h = refl

-- the drive can follow `outcome` against all replies
pub can_drive : (s : State) (ds : ℕ → ℤ) → ((k : ℕ) → within 1 (ds k) ≡ true) → (p : Play ℤ ℤ) × (p.ds ≡ ds) × Lawful p × DriveFollows s p
can_drive s ds h =
    let p : Play ℤ ℤ = record { us = driven room (λ t. choice_in (outcome t)) s ds; ds = ds } in
    let e : (k : ℕ) → p.us k ≡ choice_in (outcome (state room s p k)) = driven_is room (λ t. choice_in (outcome t)) s ds in
    let l : (t : State) → within 2 (choice_in (outcome t)) ≡ true = λ t. choice_lawful t (outcome t) (told_right t) in
    (p, refl, record { by_drive = λ k. subst (λ u. within 2 u ≡ true) (sym (e k)) (l (state room s p k)); by_draught = h }, λ k u a. e k ∙ ap choice_in a.1)

-- the draught can follow `reply` against all choices
pub can_draw : (n : ℕ) (s : State) (us : ℕ → ℤ) → ((k : ℕ) → within 2 (us k) ≡ true) → (p : Play ℤ ℤ) × (p.us ≡ us) × Lawful p × DraughtFollows n s p
can_draw n s us h =
    let p : Play ℤ ℤ = record { us = us; ds = drawn room (λ t m u. reply_in (reply t m u)) n s us } in
    let e : (k : ℕ) → p.ds k ≡ reply_in (reply (state room s p k) (n - k) (us k)) = drawn_is room (λ t m u. reply_in (reply t m u)) n s us in
    let l : (t : State) (m : ℕ) (u : ℤ) → within 1 (reply_in (reply t m u)) ≡ true = λ t m u. reply_lawful t m u (reply t m u) (replied_right t m u) in
    (p, refl, record { by_drive = h; by_draught = λ k. subst (λ d. within 1 d ≡ true) (sym (e k)) (l (state room s p k) (n - k) (us k)) }, λ k d b a. e k ∙ ap reply_in a)
