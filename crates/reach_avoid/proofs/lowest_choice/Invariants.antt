-- No choice below i is sure.
use Rattle.std.proofs.Common.{◌≡◌, ℕ, ◌<◌, false}
use Rattle.reach_avoid.specs.Room.{state_at}
use Rattle.reach_avoid.specs.TableLaws.{sure}
use Rattle.reach_avoid.proofs.lowest_choice.Given as goal

abbrev pub invariant-loop-i : goal.invariant-loop-i
invariant-loop-i l = (m : ℕ) → m < l.i → sure l.t l.n (state_at l.k) m ≡ false
