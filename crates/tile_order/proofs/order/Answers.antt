-- What the table's test leaves is what the search rules.
use Rattle.std.proofs.Common.{sym, ap₂, arith, refl}
use Rattle.tile_order.specs.Answers.{answer, found}
use Rattle.tile_order.specs.Tables.{Table}
use Rattle.tile_order.specs.TableLaws.{table}
use Rattle.tile_order.specs.OrderLaws.{straight_part, zeros}
use Rattle.tile_order.specs.LinkLaws.{fresh_links}
use Rattle.tile_order.proofs.order.Goals.{Else-refused}
use Rattle.tile_order.proofs.order.Goals as goal

taken : (c : Else-refused) → Table c.args.tiles c.args.times.now
taken c = table _ _ (sym c.if-refused.ensures)

pub returns-then-refused : goal.returns-then-refused
unfolding answer
returns-then-refused c = rw (← c.if-refused.ensures) c.refusal.ensures

pub cost_of-bound-requires : goal.cost_of-bound-requires
cost_of-bound-requires c =
    let r = taken (goal.at.cost_of-bound-requires c).Else-refused in
    let p = straight_part _ r.some r.few in
    (r.some, r.few, rw c.straight-best.ensures p.below)

pub visit-exhausted-requires : goal.visit-exhausted-requires
visit-exhausted-requires c =
    let r = taken (goal.at.visit-exhausted-requires c).Else-refused in
    record {
      few = r.few;
      size = r.size;
      rest = omega (arith, r.some);
      long = refl;
      last = r.some;
      room = omega (arith, r.few);
      blank = λ i _. zeros i 10;
      links = fresh_links _ r.some r.few;
    }

pub returns : goal.returns
unfolding answer
returns c =
    rw (← c.if-refused.ensures)
    (ap₂ found (rw (c.cost_of-bound.ensures, c.straight-best.ensures) at c.visit-exhausted.ensures.result_after) c.floor-floor.ensures)
