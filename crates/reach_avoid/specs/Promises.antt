-- What the two answers promise, in plays by the rules alone. A play is two sequences of choices, so "every play in which one side follows our answer" leaves the
-- other side free to choose by anything, the turns before and the future too. Definitions only.
use Rattle.std.specs.Prelude.{ℕ, ◌-◌, ◌≤◌, ◌≡◌, true, false, ◌&&◌, ◌⊎◌, Option, None, Some, Result, Ok, Err, leb, ℤ}
use Rattle.std.specs.Int.Signed.{lt_z}
use Rattle.reach_avoid.specs.Game.{Play, DriveBy, DraughtBy, ForcedBy, HeldOffFor}
use Rattle.reach_avoid.specs.Room.{within, State, room, inside, home, next, outcome, reply}
use Rattle.reach_avoid.specs.declared.StartOutcome.{StartOutcome}
use Rattle.reach_avoid.specs.declared.StartOutcome.TheVariants.{Home, Forced, HeldOff}
use Rattle.reach_avoid.specs.declared.OutOfRange.{OutOfRange}

-- each side adds what it may, in every turn
pub record Lawful (p : Play ℤ ℤ) : Type 0 where
  pub by_drive : (k : ℕ) → within 2 (p.us k) ≡ true
  pub by_draught : (k : ℕ) → within 1 (p.ds k) ≡ true

-- the drive takes the first choice that `outcome` gives at each state
abbrev pub DriveFollows : State → Play ℤ ℤ → Type 0
DriveFollows s p = DriveBy room (λ t u. (n : ℕ) × (outcome t ≡ Ok (Forced n u))) s p

-- the draught takes what `reply` gives at each state, turns left of n and drive's choice
abbrev pub DraughtFollows : ℕ → State → Play ℤ ℤ → Type 0
DraughtFollows n s p = DraughtBy room (λ t m u d. reply t m u ≡ Ok (Some d)) n s p

-- the drive that follows forces home within n turns, whatever the draught does
abbrev pub Forces : ℕ → State → Type 0
Forces n s = (p : Play ℤ ℤ) → Lawful p → DriveFollows s p → ForcedBy room n s p

-- the draught that follows holds off for n turns, whatever the drive does
abbrev pub HoldsOff : ℕ → State → Type 0
HoldsOff n s = (p : Play ℤ ℤ) → Lawful p → DraughtFollows n s p → HeldOffFor room n s p

-- n turns are the fewest, and u the lowest first choice for them
pub record Right (s : State) (n : ℕ) (u : ℤ) : Type 0 where
  pub start : (inside s ≡ true) × (home s ≡ false)
  pub few : (1 ≤ n) × (n ≤ 64)
  pub lawful : within 2 u ≡ true
  pub forces : Forces n s
  pub fewest : HoldsOff (n - 1) s
  pub lowest : (v : ℤ) → within 2 v ≡ true → lt_z v u ≡ true → (p : Play ℤ ℤ) → Lawful p → p.us 0 ≡ v → DraughtFollows n s p → HeldOffFor room n s p

-- what `outcome` promises
abbrev pub OutcomePromise : State → Result StartOutcome OutOfRange → Type 0
OutcomePromise s (Ok Home) = home s ≡ true
OutcomePromise s (Ok (Forced n u)) = Right s n u
OutcomePromise s (Ok HeldOff) = (inside s ≡ true) × (home s ≡ false) × HoldsOff 64 s
OutcomePromise s (Err e) = inside s ≡ false

-- after u and d the drive forces home in the turns that are left of n, or the draught holds it off
abbrev pub Lost : State → ℕ → ℤ → ℤ → Type 0
Lost s n u d = (inside (next s u d) ≡ true) × Forces (n - 1) (next s u d)

abbrev pub Saved : State → ℕ → ℤ → ℤ → Type 0
Saved s n u d = inside (next s u d) ≡ true → HoldsOff (n - 1) (next s u d)

pub record Lowest (s : State) (n : ℕ) (u d : ℤ) : Type 0 where
  pub away : home s ≡ false
  pub lawful : within 1 d ≡ true
  pub saves : Saved s n u d
  pub lower : (e : ℤ) → within 1 e ≡ true → lt_z e d ≡ true → Lost s n u e

-- what `reply` promises
abbrev pub ReplyPromise : State → ℕ → ℤ → Result (Option ℤ) OutOfRange → Type 0
ReplyPromise s n u (Ok (Some d)) = Lowest s n u d
ReplyPromise s n u (Ok None) = (home s ≡ true) ⊎ ((d : ℤ) → within 1 d ≡ true → Lost s n u d)
ReplyPromise s n u (Err e) = (inside s && within 2 u && leb 1 n && leb n 64) ≡ false
