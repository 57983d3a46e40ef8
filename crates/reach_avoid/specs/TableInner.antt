-- How the code keeps the states: a byte for each, at x * 17 + y with x = angle + 64 and y = rate + 8. Inner words, definitions only.
use Rattle.std.specs.Prelude.{ℕ, ◌+◌, ◌*◌, ◌<◌, ◌≡◌, Bool, true, false, cond, List, Result, Ok, Err, ltb, eqb, pos, nat_abs, ◌+ℤ◌, length, get_or}
use Rattle.reach_avoid.specs.Game.{choice, fewest}
use Rattle.reach_avoid.specs.Room.{State, room, inside, state_at}
use Rattle.reach_avoid.specs.declared.OutOfRange.{OutOfRange}

-- the entry of a state; 255 outside
unfoldable pub cell : List ℕ → State → ℕ
cell t s = get_or t (nat_abs (s.angle +ℤ pos 64) * 17 + nat_abs (s.rate +ℤ pos 8)) 0

unfoldable pub entry_of : List ℕ → State → ℕ
entry_of t s = cond (inside s) (cell t s) 255

-- the states whose entry is below n
unfoldable pub below : List ℕ → ℕ → State → Bool
below t n s = ltb (cell t s) n

-- entry k after turn n
unfoldable pub stepped : List ℕ → ℕ → ℕ → ℕ
stepped t k n = cond (eqb (get_or t k 0) 255) (cond (ltb (choice room (below t n) (state_at k)) 5) n 255) (get_or t k 0)

-- the table has the fewest turns, up to m, of each state
pub record Holds (m : ℕ) (t : List ℕ) : Type 0 where
  pub size : length t ≡ 2193
  pub entry : (k : ℕ) → k < 2193 → get_or t k 0 ≡ fewest room 255 m (state_at k)

-- r is the entry of s; refused outside
abbrev pub Start : State → Result ℕ OutOfRange → Type 0
Start s (Ok k) = (k < 2193) × (inside s ≡ true) × (s ≡ state_at k)
Start s (Err e) = inside s ≡ false

-- the fewest turns as the entries hold them
abbrev pub turns_at_value : ℕ → ℕ → ℕ
turns_at_value m k = fewest room 255 m (state_at k)
