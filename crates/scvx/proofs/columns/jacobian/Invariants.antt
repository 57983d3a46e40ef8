use Rattle.std.proofs.Common.{◌≡◌, ◌*◌, List, length}
use Rattle.std.specs.Prelude.{Float}
use Rattle.shared_runs.specs.Shared as Shared
use Rattle.kept_rows.specs.Kept.{kept, Gathered, Zeros}
use Rattle.scvx.specs.ProgressInner.{SameFrom}
use Rattle.scvx.specs.ColumnLaws.{Front}
use Rattle.scvx.proofs.columns.jacobian.Given as goal

-- the first c columns stand, all past the columns is as it was, and the base run is kept
abbrev pub invariant-loop-c : goal.invariant-loop-c
invariant-loop-c l = record {
  size : length l.v ≡ length l.initial.v;
  front : (r0 : List Float) → Gathered l.m r0 l.front → Zeros l.m r0 → Front l.p l.m l.z r0 l.c l.v;
  past : SameFrom (l.n * kept l.m) l.initial.v l.v;
  base : Shared.Holds l.p l.z l.run.at l.run.nodes l.run.errors;
}
