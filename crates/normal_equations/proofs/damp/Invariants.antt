use Rattle.normal_equations.specs.DampInner.{DampedTo}
use Rattle.normal_equations.proofs.damp.Given as goal

-- the diagonal is damped up to k, and all else is as it was
abbrev pub invariant-loop-k : goal.invariant-loop-k
invariant-loop-k l = DampedTo l.n l.lambda l.k l.initial.a l.a
