-- The lines of the first x angles are put.
use Rattle.text_writer.specs.PutLaws.{PutsFirst}
use Rattle.region_text.specs.RegionTexts.{angle_line}
use Rattle.region_text.proofs.put_angles.Given as goal

abbrev pub invariant-loop-x : goal.invariant-loop-x
invariant-loop-x l = PutsFirst (angle_line l.t) 99 129 l.fn.b l.at l.x l.b l.i
