-- `mosaic_answer::lines::tile_at` meets its contract: each way out is its definition's, by the tests that lead there. Assumes nothing.
use native.Mathlib.Omega.{arith}
use mathlib.Core.Path.{sym}
use lib.ListN.{get_or-eq_default}
use lib.Ieee as Ieee
use borrow.Author.Rules.{rules}
use Rattle.mosaic_answer.proofs.lines.tile_at.Statement.{statement}
use Rattle.mosaic_answer.proofs.lines.tile_at.Tie as tie

returns_2 : tie.Need-returns
unfolding Ieee.div Ieee.of_bits
returns_2 c = sym (get_or-eq_default c.args.tiles _ (omega arith))

pub tile_at_spec : {M : Type 1} → statement M
tile_at_spec = tie.close (tie.spec (search rules) (search rules) (search rules) returns_2)
