use Rattle.std.proofs.Common.{◌≡◌}
use Rattle.common.specs.Iter.{iter}
use Rattle.samples.specs.Samples.{onward}
use Rattle.samples.proofs.nodes.earlier.Given as goal

-- after i turns the walk stands at node i
abbrev pub invariant-loop-i : goal.invariant-loop-i
invariant-loop-i l = l.i ≡ iter (onward l.nodes l.t) 0 l.i
