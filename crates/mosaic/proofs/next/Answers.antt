-- `mosaic::next` meets its contract: a refused cursor stays and plans nothing (`advances_not`); any other turns as `advance_open` says.
use Rattle.mosaic.proofs.Steps.{advances, advances_not}
use Rattle.mosaic.proofs.next.Goals as goal

pub returns-in-Err : goal.returns-in-Err
returns-in-Err c = advances_not c.in-Err.is c.refused.ensures

pub returns-in-Ok : goal.returns-in-Ok
returns-in-Ok c =
    advances c.in-Ok.is c.advance_open.ensures
