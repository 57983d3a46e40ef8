use Rattle.std.proofs.Common.{◌≡◌, arith}
use Rattle.wide.proofs.Digits.{closed}
use Rattle.wide.proofs.isqrt.by_digits.Goals as goal

pub returns : goal.returns
returns c = let z : c.loop-k.k ≡ 0 = omega arith in closed _ _ (rw z at c.loop-k.invariant)
