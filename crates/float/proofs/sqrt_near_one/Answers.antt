-- Between the two patterns `near_root_bits` has the root, everywhere else `sqrt`.
use Rattle.std.proofs.Common.{T, sym, ap, ◌∙◌, subst}
use lib.Ieee.{binary64}
use lib.Ieee.Bits.{of_bits-to_bits}
use Rattle.float.specs.Sqrt.{sqrt}
use Rattle.wide.proofs.Patterns.{no_nan_bits}
use Rattle.float.proofs.sqrt_near_one.Goals as goal

pub float_from_bits-result : goal.float_from_bits-result
float_from_bits-result c = no_nan_bits c.near_root_bits.result c.near_root_bits.ensures.1

pub returns-then-b-lt4607182418867126272 : goal.returns-then-b-lt4607182418867126272
returns-then-b-lt4607182418867126272 c =
    let start = c in
    c.near_root_bits.ensures.0 ∙ ap (sqrt binary64) (of_bits-to_bits binary64 start.args.x (subst T (sym start.well_formed.0.1) tt))
