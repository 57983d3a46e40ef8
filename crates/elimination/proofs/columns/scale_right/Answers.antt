-- The two stores are the swap, then the division.
use Rattle.std.proofs.Common.{arith}
use Rattle.elimination.specs.EliminationLaws.{right_placed}
use Rattle.elimination.proofs.columns.scale_right.Goals as goal

pub returns : goal.returns
returns c = right_placed c.args.b.now c.args.k c.args.p c.args.d (omega arith) (omega arith)
