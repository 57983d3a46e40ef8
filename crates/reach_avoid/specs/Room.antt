-- The rules of the room, and what is told of a start. Definitions only.
use Rattle.std.specs.Prelude.{ℕ, zero, suc, ◌-◌, ◌/◌, ◌%◌, Bool, cond, ◌&&◌, List, [], ◌∷◌, ◌++◌, Option, None, Some, Result, Ok, Err, ltb, leb, eqb, ℤ, pos, neg_ℤ, ◌+ℤ◌, ◌-ℤ◌}
use Rattle.std.proofs.Math.IntN.{sub_ℕ}
use Rattle.std.specs.Int.Signed.{le_z}
use Rattle.reach_avoid.specs.Game.{Game, answer, choice, wins, fewest}
use Rattle.reach_avoid.specs.declared.StartOutcome.{StartOutcome}
use Rattle.reach_avoid.specs.declared.StartOutcome.TheVariants.{Home, Forced, HeldOff}
use Rattle.reach_avoid.specs.declared.OutOfRange.{OutOfRange}

-- z is from -m to m
abbrev pub within : ℕ → ℤ → Bool
within m z = le_z (neg_ℤ (pos m)) z && le_z z (pos m)

pub record State : Type 0 where
  pub angle : ℤ
  pub rate : ℤ

unfoldable pub inside : State → Bool
inside s = within 64 s.angle && within 8 s.rate

unfoldable pub home : State → Bool
home s = within 4 s.angle && within 2 s.rate

-- the drive adds u to the rate, the draught d; then the angle moves by the new rate
unfoldable pub next : State → ℤ → ℤ → State
next s u d = record { angle = s.angle +ℤ (s.rate +ℤ u +ℤ d); rate = s.rate +ℤ u +ℤ d }

-- the drive adds -2 to 2, the draught -1 to 1
abbrev pub room : Game State ℤ ℤ
room = record { next = next; inside = inside; home = home; drive = λ i. pos i -ℤ pos 2; drives = 5; draught = λ j. pos j -ℤ pos 1; draughts = 3 }

-- what is told of a start whose fewest turns are n, 255 for none
abbrev pub telling : ℕ → State → StartOutcome
telling n s = cond (eqb n 0) Home (cond (eqb n 255) HeldOff (Forced n (room.drive (choice room (wins room (n - 1)) s))))

-- the refusal (27)
abbrev pub out_of_range : OutOfRange
out_of_range = record {}

unfoldable pub outcome : State → Result StartOutcome OutOfRange
outcome s = cond (inside s) (Ok (telling (fewest room 255 64 s) s)) (Err out_of_range)

-- what the draught replies to u at s with n turns left, this one counted
abbrev pub replying : ℕ → State → ℤ → Option ℤ
replying n s u = let j = answer room (wins room (n - 1)) s u in cond (home s) None (cond (ltb j 3) (Some (room.draught j)) None)

-- A start outside is refused. Of a choice beyond 2 and of turns left other than 1 to 64 the rules say nothing: the answer is free, and is the same refusal.
unfoldable pub reply : State → ℕ → ℤ → Result (Option ℤ) OutOfRange
reply s n u = cond (inside s && within 2 u && leb 1 n && leb n 64) (Ok (replying n s u)) (Err out_of_range)

-- the turns that are told of a start; 255 where it is held off
abbrev pub turns_of : Result StartOutcome OutOfRange → ℕ
turns_of (Ok Home) = 0
turns_of (Ok (Forced n u)) = n
turns_of (Ok HeldOff) = 255
turns_of (Err e) = 255

-- the state whose angle is x - 64 and whose rate is y - 8
abbrev pub spot : ℕ → ℕ → State
spot x y = record { angle = sub_ℕ x 64; rate = sub_ℕ y 8 }

-- start number k of 2,193: angle by angle from -64, and of each angle rate by rate from -8
abbrev pub state_at : ℕ → State
state_at k = spot (k / 17) (k % 17)

-- the turns of the first k starts
unfoldable pub turns_up_to : ℕ → List ℕ
turns_up_to zero = []
turns_up_to (suc k) = turns_up_to k ++ turns_of (outcome (state_at k)) ∷ []

abbrev pub region : List ℕ
region = turns_up_to 2193
