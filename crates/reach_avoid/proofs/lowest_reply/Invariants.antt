-- No reply below j serves.
use Rattle.std.proofs.Common.{◌≡◌, ℕ, ◌<◌, false}
use Rattle.reach_avoid.specs.Room.{state_at}
use Rattle.reach_avoid.specs.TableLaws.{serves}
use Rattle.reach_avoid.proofs.lowest_reply.Given as goal

abbrev pub invariant-loop-j : goal.invariant-loop-j
invariant-loop-j l = (m : ℕ) → m < l.j → serves l.t l.n (state_at l.k) l.i m ≡ false
