-- `near_law` says that halfway between b and the pattern of 1 is the root's pattern.
use Rattle.std.proofs.Common.{arith}
use Rattle.float.proofs.Near.{near_law}
use Rattle.float.proofs.root.near_root_bits.Goals as goal

pub returns : goal.returns
returns c = (near_law _ c.requires.0 c.requires.1, omega arith)
