-- `rows::step_controls` meets its contract: before the last sample its step has controls, and they are the promise's. Assumes nothing.
use Rattle.reference_checks.specs.Checks.{controls_of}
use Rattle.export_reference.specs.RowLaws.{controls_step, controls_last}
use Rattle.export_reference.proofs.rows.step_controls.Goals as goal

pub returns-then-k-r : goal.returns-then-k-r
unfolding controls_of
returns-then-k-r c = rw (c.controls.ensures, c.sample_of-next.ensures, c.sample_of-first.ensures) (controls_step _ _ c.if-k-r.true)

pub returns-else-k-r : goal.returns-else-k-r
returns-else-k-r c = controls_last _ _ c.if-k-r.false
