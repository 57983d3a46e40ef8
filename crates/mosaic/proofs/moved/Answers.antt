-- `mosaic::moved` meets its contract: the leg's fate decides, as in the definition: `halted` or `took`.
use mathlib.Core.Path.{◌∙◌, refl}
use Rattle.mosaic.specs.Mosaics.{moved}
use Rattle.mosaic.proofs.moved.Goals as goal

pub took-requires : goal.took-requires
took-requires c = c.requires

pub returns-in-Err : goal.returns-in-Err
unfolding moved
returns-in-Err c = c.halted.ensures ∙ rw c.in-Err.is refl

pub returns-in-Ok : goal.returns-in-Ok
unfolding moved
returns-in-Ok c = c.took.ensures ∙ rw c.in-Ok.is refl
