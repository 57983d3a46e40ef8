-- `problem::starts::leading_starts`: every wheel before k has a start that fits.
use Rattle.std.proofs.Common.{◌≡◌}
use Rattle.common.specs.Iter.{iter}
use Rattle.problem.specs.Starts.{leading_turn}
use Rattle.problem.proofs.starts.leading_starts.Given as goal

abbrev pub invariant-loop-k : goal.invariant-loop-k
invariant-loop-k l = l.k ≡ iter (leading_turn l.n l.limits l.m) 0 l.k
