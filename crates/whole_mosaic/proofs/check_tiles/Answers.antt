-- `whole_mosaic::check_tiles` meets its contract: the count is checked first; past it there are at least 2 tiles, so that 1 can be taken off.
use Rattle.std.proofs.Common.{◌∙◌, sym, ap, Err}
use Rattle.std.proofs.lemmas.Result.{err_from_is_err_and}
use native.Mathlib.Omega.{arith}
use Rattle.mosaic_laws.specs.Tiles.{count_least}
use Rattle.whole_mosaic.specs.Rooms.{tiles_refused, tiles_room}
use Rattle.whole_mosaic.proofs.check_tiles.Goals as goal

pub overflow_sub-tiles : goal.overflow_sub-tiles
overflow_sub-tiles c = omega (arith, count_least c.args.tiles (sym c.check_count.ensures ∙ c.in_ok-check_count.was))

pub returns-in_err-check_count : goal.returns-in_err-check_count
returns-in_err-check_count c =
    let p = err_from_is_err_and c.from_residual.result c.from_residual.ensures.1 in
    p.1 ∙ ap Err p.2 ∙ tiles_refused _ _ _ _ _ c.check_count.ensures c.in_err-check_count.was

pub returns : goal.returns
returns c = c.check_rows.ensures ∙ tiles_room _ _ _ _ _ c.check_count.ensures c.in_ok-check_count.was
