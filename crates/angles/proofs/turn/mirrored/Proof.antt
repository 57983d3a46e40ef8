-- `angles::turn::mirrored` meets its contract: a negative argument's quarters and rest are its size's, negated.
use Rattle.std.proofs.Common.{arith}
use Rattle.angles.specs.ReductionLaws.{reduced_pos, reduced_neg}
use Rattle.angles.proofs.turn.mirrored.Statement.{statement}
use Rattle.angles.proofs.turn.mirrored.Tie as tie

sub-t6 : tie.Need-overflow_sub-result
sub-t6 c = omega arith

returns : tie.Need-returns-then-negative
returns c x y e t = reduced_neg x y _ _ c.args.t.below (rw c.if-negative.true at e) t

returns_2 : tie.Need-returns-else-negative
returns_2 c x y e t = reduced_pos x y _ _ _ (rw c.if-negative.false at e) t

pub mirrored_spec : {M : Type 1} → statement M
mirrored_spec = tie.close (tie.spec sub-t6 returns returns_2)
