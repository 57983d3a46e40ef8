-- The turns made (`iter`), and that a line adds at most one to each count.
use Rattle.std.proofs.Common.{◌≡◌}
use Rattle.common.specs.Iter.{iter}
use Rattle.text.specs.Forms.{loose}
use Rattle.problem_text.specs.Listing.{turn}
use Rattle.problem_text.proofs.Lists.{Counts}
use Rattle.problem_text.proofs.listing.list_at.Given as goal

abbrev pub invariant-loop-k : goal.invariant-loop-k
invariant-loop-k l = record { is : l.c ≡ iter (turn loose l.s) l.initial.c l.k; counts : Counts l.c l.k }
