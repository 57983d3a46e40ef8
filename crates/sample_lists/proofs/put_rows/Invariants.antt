use Rattle.std.proofs.Common.{◌-◌, ◌<◌}
use Rattle.sample_lists.specs.StagesInner.{Passed, timed}
use Rattle.sample_lists.proofs.Listing.{Going}
use Rattle.sample_lists.proofs.Pipeline.{IsPlaced, IsTurned}
use Rattle.sample_lists.proofs.put_rows.Given as goal

-- sample j - 1 is placed, sample j - 2 turned, the rows before it stand
abbrev pub invariant-loop-j : goal.invariant-loop-j
invariant-loop-j l =
    (l.placed.i < 16) × Passed l.nodes l.placed.t l.placed.i × (l.turning.i < 16)
    × IsPlaced l.nodes l.steps l.duration l.count l.j l.placed × IsTurned l.nodes l.steps l.duration l.count l.j l.turning
    × Going (timed l.inertia l.tolerance l.duration l.nodes l.count) (l.j - 2) l.initial.out l.out
