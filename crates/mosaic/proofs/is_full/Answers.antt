-- `mosaic::is_full` meets its contract: an index above 62 decides (`full_index`), else the runs do (`full_runs`).
use Rattle.mosaic.proofs.Steps.{full_index, full_runs}
use Rattle.mosaic.proofs.is_full.Goals as goal

pub returns-then-c-gt62 : goal.returns-then-c-gt62
returns-then-c-gt62 c = full_index c.args.c c.if-c-gt62.true

pub returns : goal.returns
returns c = full_runs c.args.c c.if-c-gt62.false
