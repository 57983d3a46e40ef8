-- Each way out is a case of the definition, and a sized map's counts are small enough to add.
use Rattle.std.proofs.Common.{sym, ◌∙◌, arith}
use Rattle.actuators.specs.Maps.{control_dim}
use Rattle.actuators.specs.MapLaws.{sized_counts, gimbals_most}
use Rattle.actuators.proofs.control_dim.Goals as goal

pub returns-then-not-is_sized : goal.returns-then-not-is_sized
unfolding control_dim
returns-then-not-is_sized c = rw (← c.is_sized.ensures, c.if-not-is_sized.true)

pub returns-then-is_empty : goal.returns-then-is_empty
unfolding control_dim
returns-then-is_empty c =
    rw (← c.is_sized.ensures, c.if-not-is_sized.false, ← c.is_empty.ensures, c.if-is_empty.true)

pub overflow_add-result : goal.overflow_add-result
overflow_add-result c =
    let s = sized_counts _ (sym c.is_sized.ensures ∙ c.if-not-is_sized.false) in
    omega arith

pub overflow_add-result-2 : goal.overflow_add-result-2
overflow_add-result-2 c =
    let s = sized_counts _ (sym c.is_sized.ensures ∙ c.if-not-is_sized.false) in
    omega (arith, c.gimbals.ensures, gimbals_most c.args.map.cmgs)

pub returns : goal.returns
unfolding control_dim
returns c =
    rw (
      ← c.is_sized.ensures,
      c.if-not-is_sized.false,
      ← c.is_empty.ensures,
      c.if-is_empty.false,
      c.gimbals.ensures,
    )
