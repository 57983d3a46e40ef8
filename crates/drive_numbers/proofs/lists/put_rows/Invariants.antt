use Rattle.drive_numbers.specs.Drive.{drive_sample}
use Rattle.drive_numbers.proofs.Listing.{Going}
use Rattle.drive_numbers.proofs.lists.put_rows.Given as goal

-- k rows are put, and the rest stays
abbrev pub invariant-loop-k : goal.invariant-loop-k
invariant-loop-k l = Going (drive_sample l.inertia l.tolerance l.duration l.nodes l.requested l.alpha) l.k l.initial.out l.out
