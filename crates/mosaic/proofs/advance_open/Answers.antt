-- `mosaic::advance_open` meets its contract: a full cursor is halted with 23; any other has room for a leg (`open_of`), as `advance` asks.
use Rattle.mosaic.proofs.Steps.{open_of, turned_full, turned_open}
use Rattle.mosaic.proofs.advance_open.Goals as goal

pub returns-then-is_full : goal.returns-then-is_full
returns-then-is_full c =
    turned_full _ c.is_full.ensures c.if-is_full.true c.halted.ensures c.refused.ensures

pub advance-requires : goal.advance-requires
advance-requires c = open_of _ c.is_full.ensures c.if-is_full.false

pub returns : goal.returns
returns c =
    turned_open _ c.is_full.ensures c.if-is_full.false c.advance.ensures
