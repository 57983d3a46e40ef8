use Rattle.std.proofs.lemmas.Result.{err_from_is_err_and}
use Rattle.reference.specs.Prepare.{prepare_reference}
use Rattle.reference.specs.CountLaws.{table_few}
use Rattle.reference.specs.PlanLaws.{layout_few}
use Rattle.reference.proofs.prepare.prepare_reference.Goals as goal

pub returns-in_err-l : goal.returns-in_err-l
unfolding prepare_reference
returns-in_err-l c =
    let p = err_from_is_err_and c.from_residual.result c.from_residual.ensures.1 in
    (rw (p.1, p.2, ← c.layout_of.ensures, c.in_err-l.was), rw p.1 tt)

pub prepare_layout-requires : goal.prepare_layout-requires
prepare_layout-requires c = rw (← c.layout_of.ensures, c.in_ok-l.was) at (table_few c.args.c.map c.args.c.momenta c.args.c.torque_limit c.requires)

pub returns : goal.returns
unfolding prepare_reference
returns c =
    let few = rw (← c.layout_of.ensures, c.in_ok-l.was) at (table_few c.args.c.map c.args.c.momenta c.args.c.torque_limit c.requires) in
    (rw (c.prepare_layout.ensures, ← c.layout_of.ensures, c.in_ok-l.was), rw c.prepare_layout.ensures (layout_few _ _ _ _ few))
