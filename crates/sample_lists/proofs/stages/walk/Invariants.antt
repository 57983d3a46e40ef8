use Rattle.sample_lists.specs.StagesInner.{Passed}
use Rattle.sample_lists.proofs.stages.walk.Given as goal

abbrev pub invariant-loop-i : goal.invariant-loop-i
invariant-loop-i l = Passed l.nodes l.t l.i
