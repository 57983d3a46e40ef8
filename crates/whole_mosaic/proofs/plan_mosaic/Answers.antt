-- `whole_mosaic::plan_mosaic` meets its contract: a refusal writes nothing (`filled_not`); else the lent rows have the room that `put_legs` asks for.
use native.Mathlib.Omega.{arith}
use Rattle.whole_mosaic.specs.Rooms.{lends, lends_tile, filled_not, filled_all}
use Rattle.whole_mosaic.proofs.plan_mosaic.Goals as goal

pub overflow_sub-tiles : goal.overflow_sub-tiles
overflow_sub-tiles c = lends_tile _ _ _ _ _ c.check_tiles-fate.ensures c.in-Ok.is

pub put_legs-requires : goal.put_legs-requires
put_legs-requires c =
    lends _ _ _ _ _ c.check_tiles-fate.ensures c.in-Ok.is

pub returns-in-Err : goal.returns-in-Err
returns-in-Err c =
    let check-tiles = c.check_tiles-fate in
    filled_not _ _ _ _ _ _ _ _ _ _ check-tiles.ensures c.in-Err.is c.start.ensures c.halted.ensures

pub returns-in-Ok : goal.returns-in-Ok
returns-in-Ok c =
    filled_all _ _ _ _ _ _ _ _ _ _ c.check_tiles-fate.ensures c.in-Ok.is c.put_legs.ensures
