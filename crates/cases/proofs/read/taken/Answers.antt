-- `read::taken` meets its contract: its tests are the definition's, and a digit that is read is the byte's. Assumes nothing.
use Rattle.std.proofs.Common.{sym, lt-ltb, le-ltb}
use Rattle.cases.specs.Words.{taken}
use Rattle.cases.proofs.read.taken.Goals.{then-not-w-via-then-not-w, then-not-w-via-else-not-w+then-w-s}
use Rattle.cases.proofs.read.taken.Goals as goal

pub returns-then-not-w : goal.returns-then-not-w
unfolding taken
returns-then-not-w c = elim c.then-not-w.branch [
  | then-not-w-via-then-not-w w ↦ rw w.if-not-w.true
  | then-not-w-via-else-not-w+then-w-s w ↦ rw (w.if-not-w.false, le-ltb _ _ w.if-w-s.true)
]

pub returns-in-Some : goal.returns-in-Some
unfolding taken
returns-in-Some c = rw (c.if-not-w.false, lt-ltb _ _ c.if-w-s.false, sym c.digit.ensures.is, c.in-Some.is)

pub returns-in-None : goal.returns-in-None
unfolding taken
returns-in-None c = rw (c.if-not-w.false, lt-ltb _ _ c.if-w-s.false, sym c.digit.ensures.is, c.in-None.is)
