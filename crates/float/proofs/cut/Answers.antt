-- `cut_below` says that the whole part of -x, negated, is the ceiling of x.
use Rattle.float.proofs.Whole.{cut_fits, negated_small, cut_below}
use Rattle.float.proofs.cut.Goals as goal

pub truncating_f64_to_u64-requires-clause-lower_bound : goal.truncating_f64_to_u64-requires-clause-lower_bound
truncating_f64_to_u64-requires-clause-lower_bound c = (cut_fits _ (negated_small c.args.x c.requires.0 c.requires.1)).0

pub truncating_f64_to_u64-requires-clause-upper_bound : goal.truncating_f64_to_u64-requires-clause-upper_bound
truncating_f64_to_u64-requires-clause-upper_bound c = (cut_fits _ (negated_small c.args.x c.requires.0 c.requires.1)).1

pub returns : goal.returns
returns c = rw c.nearest_u64_to_f64.ensures (cut_below _ _ c.requires.0 c.requires.1 c.truncating_f64_to_u64.ensures)
