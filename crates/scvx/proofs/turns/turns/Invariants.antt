use Rattle.std.proofs.Common.{◌≡◌, ◌+◌, ◌*◌, ◌≤◌}
use Rattle.common.specs.Iter.{iter}
use Rattle.scvx.specs.declared.Status.TheVariants.{Going}
use Rattle.scvx.specs.Search as Search
use Rattle.scvx.specs.ProgressInner.{Holds, columns_in}
use Rattle.scvx.proofs.turns.turns.Given as goal

-- after k turns the state is the definition's, with its residuals known
abbrev pub invariant-loop-k : goal.invariant-loop-k
invariant-loop-k l = record {
  runs : l.g.state.runs ≤ 1 + l.k * 195;
  on : l.g.state.status ≡ Going;
  same : l.g.state ≡ iter (Search.turn l.p) l.initial.g.state l.k;
  holds : Holds l.p (columns_in l.n l.m l.ws) l.gram l.g;
}
