-- `root_bits_law` puts the square of `normal` and the digits of `root_digits` together.
use Rattle.float.proofs.Cases.{root_bits_law}
use Rattle.std.proofs.Common.{arith}
use Rattle.float.proofs.root.root_bits.Goals as goal

pub returns : goal.returns
returns c =
    let start = c in
    let n = c.normal-n in
    let r = c.root_digits.ensures in
    (root_bits_law start.args.b n.result.g n.result.k c.root_digits.result start.requires.0 start.requires.1 n.ensures.0 n.ensures.1 n.ensures.2 r.0 r.1 r.2, omega arith)
