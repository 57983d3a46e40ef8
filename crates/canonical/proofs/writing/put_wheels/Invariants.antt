-- The first wheels are put.
use Rattle.std.proofs.Common.{get_or}
use Rattle.canonical.specs.Writing.{entry_text}
use Rattle.canonical_laws.specs.Pieces.{wheel, no_wheel}
use Rattle.text_writer.specs.PutLaws.{PutsFirst}
use Rattle.canonical.proofs.writing.put_wheels.Given as goal

abbrev pub invariant-loop-w : goal.invariant-loop-w
invariant-loop-w l = PutsFirst (λ j. entry_text (wheel (get_or l.fn.wheels j no_wheel))) 112 l.n l.initial.b l.at l.w-index l.b l.i
