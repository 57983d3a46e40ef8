-- `export_mosaic::slew_mosaic_next` meets its contract, by the contracts of what it calls. Assumes nothing.
use borrow.Author.Rules.{rules}
use Rattle.export_mosaic.proofs.slew_mosaic_next.Statement.{statement}
use Rattle.export_mosaic.proofs.slew_mosaic_next.Tie as tie

returns : tie.Need-returns
returns c =
    let put = c.before.before.before.before.before.before.before in
    let made = put.before.before.before.before.before.before.before in
    let to = made.before.before in
    let from = to.before.before in
    let at = from.before.before in
    let e = rw (c.problem_of-p.ensures, c.cursor_of-at.ensures, c.quat_of.ensures, c.quat_of-2.ensures) at c.turn-made.ensures.0 in
    record {
      counts_are = rw e at c.put_cursor.ensures.counts_are;
      sums_are = rw e at c.put_cursor.ensures.sums_are;
      leg_told = record { plan_told = rw e at c.put_planned.ensures; left = rw e at c.turn-made.ensures.1 };
    }

pub slew_mosaic_next_spec : {M : Type 1} → statement M
slew_mosaic_next_spec =
    tie.close
    (tie.spec
    (λ c κs. search rules)
    (λ c. search rules)
    (λ c κs. search rules)
    (λ c κs. search rules)
    (λ c κs. search rules)
    (λ c κs. search rules)
    (λ c κs. search rules)
    (λ c κs. search rules)
    (λ c. search rules)
    returns)
