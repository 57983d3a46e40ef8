-- `mosaic_answer::lines::tile_after` meets its contract: each way out is its definition's, by the tests that lead there. Assumes nothing.
use native.Mathlib.Omega.{arith}
use mathlib.Core.Path.{sym, ◌∙◌}
use lib.ListN.{get_or-eq_default}
use borrow.Author.Rules.{rules}
use Rattle.mosaic_answer.proofs.lines.tile_after.Statement.{statement}
use Rattle.mosaic_answer.proofs.lines.tile_after.Tie as tie

returns_2 : tie.Need-returns
returns_2 c =
    let tiles = c.args.tiles in
    c.tile_at-2.ensures ∙ get_or-eq_default tiles _ (omega arith) ∙ sym (get_or-eq_default tiles _ (omega (arith, c.if-k-lt64.false)))

pub tile_after_spec : {M : Type 1} → statement M
tile_after_spec = tie.close (tie.spec (search rules) (search rules) (λ c. search rules) (search rules) returns_2)
