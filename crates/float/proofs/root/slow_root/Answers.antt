-- `isqrt` rounds down, and the test of (2q + 1)^2 tells which is nearer (`slow_down`, `slow_up`).
use Rattle.float.proofs.Settled.{whole_root}
use Rattle.std.proofs.Common.{arith}
use Rattle.float.proofs.root.slow_root.Goals as goal

pub overflow_mul-q : goal.overflow_mul-q
overflow_mul-q c = let h = (whole_root _ _ c.requires.0 c.requires.1 c.isqrt-q.ensures).1 in omega arith

pub overflow_add-q : goal.overflow_add-q
overflow_add-q c = let h = (whole_root _ _ c.requires.0 c.requires.1 c.isqrt-q.ensures).1 in omega arith
