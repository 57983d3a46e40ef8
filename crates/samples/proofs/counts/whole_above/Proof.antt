-- `samples::counts::whole_above` meets its contract: x cut to a whole number is its ceiling or one less, and the comparison tells which.
use Rattle.std.proofs.Common.{arith}
use Rattle.samples.specs.CountLaws.{steps_fit, steps_cut, steps_up, steps_same}
use Rattle.samples.proofs.counts.whole_above.Statement.{statement}
use Rattle.samples.proofs.counts.whole_above.Tie as tie

truncating-f64-to-u64-requires : tie.Need-truncating_f64_to_u64-n-requires
truncating-f64-to-u64-requires c κs = let h = steps_fit c.args.x c.requires in (h.0, h.1)

whole-requires : tie.Need-whole-requires
whole-requires c κs = omega (arith, steps_cut _ c.args.x c.requires c.truncating_f64_to_u64-n.ensures)

add-result : tie.Need-overflow_add-result
add-result c = omega (arith, steps_cut _ c.args.x c.requires c.truncating_f64_to_u64-n.ensures)

returns : tie.Need-returns-then-whole-x
returns c = steps_up _ c.args.x c.requires c.truncating_f64_to_u64-n.ensures (rw c.whole.ensures at c.if-whole-x.true)

returns_2 : tie.Need-returns-else-whole-x
returns_2 c = steps_same _ c.args.x c.requires c.truncating_f64_to_u64-n.ensures (rw c.whole.ensures at c.if-whole-x.false)

pub whole_above_spec : {M : Type 1} → statement M
whole_above_spec = tie.close (tie.spec truncating-f64-to-u64-requires whole-requires add-result returns returns_2)
