-- The number of the digits read so far.
use Rattle.std.proofs.Common.{◌≡◌, Some}
use Rattle.common.specs.Iter.{iter}
use Rattle.arguments.specs.Requests.{turn}
use Rattle.arguments.proofs.read_requested.Given as goal

abbrev pub invariant-loop-b : goal.invariant-loop-b
invariant-loop-b l = Some l.n ≡ iter (turn l.word) (Some 0) l.b-index
