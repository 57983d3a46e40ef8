use Rattle.std.proofs.Common.{◌+◌, ◌*◌, ◌^◌}
use Rattle.wide.proofs.Digits.{Open}
use Rattle.wide.proofs.isqrt.by_digits.Given as goal

-- k digits of the root are open
abbrev pub invariant-loop-k : goal.invariant-loop-k
invariant-loop-k l = Open (l.hi * 2 ^ 64 + l.lo) l.s l.k
