-- The entries before k are those before any turn, and the others 255.
use Rattle.reach_avoid.specs.TableInner.{turns_at_value}
use Rattle.reach_avoid.specs.TableLaws.{Stored}
use Rattle.reach_avoid.proofs.begin.Given as goal

abbrev pub invariant-loop-k : goal.invariant-loop-k
invariant-loop-k l = Stored (turns_at_value 0) (λ _. 255) l.k l.t
