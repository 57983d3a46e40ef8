-- `forward::runs::run_into` meets its contract: the run from its start. Assumes nothing.
use mathlib.Core.Path.{◌≡◌, refl, ◌∙◌}
use native.Mathlib.Omega.{arith}
use lib.ListN.{length}
use lib.Ieee as Ieee
use Rattle.controls.specs.SizeLaws.{dim_sized}
use Rattle.gimbal_angles.specs.KnownLaws.{none_known}
use Rattle.control_rows.specs.declared.WheelLaw.TheVariants.{Once}
use Rattle.forward.specs.Runs as Runs
use Rattle.forward.specs.GimbalStartInner.{start_goes, start_refused}
use Rattle.forward.specs.PartLaws.{told, stands_first}
use Rattle.forward.proofs.runs.run_into.Goals as goal

pub start-from-requires : goal.start-from-requires
start-from-requires c =
    (dim_sized Once _ c.requires.0).wheels

pub run_on-requires : goal.run_on-requires
unfolding Runs.start Ieee.of_bits
run_on-requires c =
    let pre = c.requires in
    let made = start_goes _ c.start_gimbals.ensures c.in-Ok.is in
    (record { sized = pre.0; narrow = pre.1.0; angles = (made.0, none_known c.args.p.map.cmgs); sound = rw (c.unbegun-in-Ok.ensures, c.start-from.ensures) (record { matrix = made.1; plus = tt }) }, omega arith)

pub returns-in-Err : goal.returns-in-Err
unfolding told Runs.run_under Runs.start
returns-in-Err c =
    let start-gimbals = c.start_gimbals in
    (start_refused _ _ _ _ refl start-gimbals.ensures c.in-Err.is, c.requires.1.1)

pub returns-in-Ok : goal.returns-in-Ok
unfolding Runs.run_under Ieee.of_bits
returns-in-Ok c =
    let nodes = c.args.nodes.now in
    let long = c.requires.1.1 in
    let whole = c.run_on.ensures.whole c.start-from.result (rw c.unbegun-in-Ok.ensures (stands_first _ _ _ c.start-from.result c.in-Ok.l.a nodes long)) in
    (rw (whole, c.start-from.ensures), c.run_on.ensures.size ∙ long)
