-- Four kinds of x: above 0 and finite by `root_bits`, infinite, zero, anything else.
use Rattle.std.proofs.Common.{T, sym, ap, ◌∙◌, subst}
use lib.Ieee.{binary64}
use lib.Ieee.Bits.{of_bits-to_bits}
use Rattle.float.specs.Sqrt.{sqrt}
use Rattle.wide.proofs.Patterns.{no_nan_bits}
use Rattle.float.proofs.Cases.{above_bits, above_inf, at_zero, other}
use Rattle.float.proofs.sqrt.Goals as goal

pub root_bits-requires : goal.root_bits-requires
root_bits-requires c = (above_bits c.args.x (subst T (sym c.well_formed.0.1) tt) c.if-x.true, c.if-b-lt9218868437227405312.true)

pub float_from_bits-result : goal.float_from_bits-result
float_from_bits-result c = no_nan_bits c.root_bits.result c.root_bits.ensures.1

pub returns-then-b-lt9218868437227405312 : goal.returns-then-b-lt9218868437227405312
returns-then-b-lt9218868437227405312 c = c.root_bits.ensures.0 ∙ ap (sqrt binary64) (of_bits-to_bits binary64 c.args.x (subst T (sym c.well_formed.0.1) tt))

pub returns-else-b-lt9218868437227405312 : goal.returns-else-b-lt9218868437227405312
returns-else-b-lt9218868437227405312 c = above_inf c.args.x (subst T (sym c.well_formed.0.1) tt) c.if-x.true c.if-b-lt9218868437227405312.false

pub returns-then-x-2 : goal.returns-then-x-2
returns-then-x-2 c = at_zero c.args.x c.if-x-2.true

pub returns-else-x-2 : goal.returns-else-x-2
returns-else-x-2 c = other c.args.x c.if-x.false c.if-x-2.false
