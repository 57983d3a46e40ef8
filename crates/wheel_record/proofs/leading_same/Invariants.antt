-- `leading_same`: the first k wheels are the same.
use Rattle.std.proofs.Common.{◌≡◌}
use Rattle.common.specs.Iter.{iter}
use Rattle.wheel_record.specs.Commits.{leading_turn}
use Rattle.wheel_record.proofs.leading_same.Given as goal

abbrev pub invariant-loop-k : goal.invariant-loop-k
invariant-loop-k l = l.k ≡ iter (leading_turn l.m l.n) 0 l.k
