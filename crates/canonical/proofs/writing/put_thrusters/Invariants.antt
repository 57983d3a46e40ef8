-- The first thrusters are put.
use Rattle.std.proofs.Common.{get_or}
use Rattle.canonical.specs.Writing.{entry_text}
use Rattle.canonical_laws.specs.Pieces.{thruster, no_thruster}
use Rattle.text_writer.specs.PutLaws.{PutsFirst}
use Rattle.canonical.proofs.writing.put_thrusters.Given as goal

abbrev pub invariant-loop-t : goal.invariant-loop-t
invariant-loop-t l = PutsFirst (λ j. entry_text (thruster (get_or l.fn.thrusters j no_thruster))) 112 l.n l.initial.b l.at l.t-index l.b l.i
