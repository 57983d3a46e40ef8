-- The cast is reached only above -1 and below 2^64.
use Rattle.std.proofs.Common.{T, sym, subst}
use Rattle.std.specs.Float.Ieee.{of_bits, neg}
use Rattle.wide.proofs.isqrt.word.Goals as goal

pub truncating_f64_to_u64-requires-clause-lower_bound : goal.truncating_f64_to_u64-requires-clause-lower_bound
unfolding of_bits neg
truncating_f64_to_u64-requires-clause-lower_bound c = subst T (sym c.if-x.true) tt

pub truncating_f64_to_u64-requires-clause-upper_bound : goal.truncating_f64_to_u64-requires-clause-upper_bound
unfolding of_bits neg
truncating_f64_to_u64-requires-clause-upper_bound c = subst T (sym c.if-x-2.true) tt
