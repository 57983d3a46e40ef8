-- `shared_runs::residuals_sharing` meets its contract: what is kept of the run of z begins that of y. Assumes nothing.
use Rattle.std.proofs.Common.{rules}
use mathlib.Core.Path.{◌≡◌, refl, sym, ap, ◌∙◌}
use native.Mathlib.Omega.{arith}
use lib.ListN.{length}
use Rattle.actuators.specs.MapLaws.{sized_counts}
use Rattle.forward.specs.Runs as Runs
use Rattle.forward.specs.Decisions.{step_time}
use Rattle.residuals.specs.Residuals.{target_of}
use Rattle.residuals.specs.BeginLaws.{told_refused, told_going}
use Rattle.shared_runs.specs.SharedLaws.{begins_same, kept_same, after_shared, begins_shared}
use borrow.Author.Tests.{not-false}
use Rattle.shared_runs.proofs.residuals_sharing.Goals as goal

pub shares-requires : goal.shares-requires
shares-requires c = let pre = c.requires in (λ on. (pre.1.1.1.1.1 on).begins.sums.few, omega (arith, pre.1.0, pre.1.1.0))

pub residuals_of-requires : goal.residuals_of-requires
residuals_of-requires c = let pre = c.requires in (pre.0, pre.1.0)

pub returns-then-not-shares : goal.returns-then-not-shares
returns-then-not-shares c =
    (c.residuals_of.ensures, c.requires.1.1.1.1)

pub run_on-w-requires : goal.run_on-w-requires
run_on-w-requires c =
    let pre = c.requires in
    let k = pre.1.1.1.1.1 (c.shares.ensures (c.if-not-shares.false)).0 in
    (record { sized = pre.0; narrow = pre.1.0; angles = (k.skew, pre.1.1.1.0); sound = k.sound }, k.begins.sums.few)

pub of_rows-requires : goal.of_rows-requires
of_rows-requires c =
    let a = c.args in
    let pre = c.requires in
    let s = c.shares.ensures (c.if-not-shares.false) in
    let k = pre.1.1.1.1.1 s.0 in
    let r = c.run_on-w.ensures in
    let known = begins_shared a.p a.n a.z.now a.y.now a.b a.nodes.now a.errors.now pre.1.1.0 k s.1 in
    let long = k.begins.sums.long in
    let y : length a.y.now ≡ 193 = search rules in
    rw c.target_of.ensures (
      record { wheels = (sized_counts _ pre.0).0; numbers = omega (arith, pre.1.0, y) },
      begins_same a.b.steps a.nodes.now c.run_on-w.new.nodes k.begins.sums.few long (r.size ∙ long) r.below (target_of a.p) (step_time a.y.now) a.b.sums a.errors.now known,
    )

pub returns-in-Err : goal.returns-in-Err
unfolding Runs.run_under
returns-in-Err c =
    let a = c.args in
    let pre = c.requires in
    let s = c.shares.ensures (c.if-not-shares.false) in
    let held = pre.1.1.1.1 in
    let r = c.run_on-w.ensures in
    let u = c.run_on-w.new.nodes in
    let whole = r.whole (Runs.start_of a.p) (after_shared a.p a.n a.z.now a.y.now a.b a.nodes.now a.errors.now pre.1.1.0 (held.1 s.0) s.1) in (
      c.refused_residuals.ensures ∙ told_refused a.p a.y.now c.run_on-w.result u whole c.in-Err.is,
      (record { nodes = r.size ∙ held.0.nodes; errors = held.0.errors }, λ on. kept_same a.p a.z.now a.b a.nodes.now u a.errors.now r.size r.below (held.1 on)),
    )

pub returns-in-Ok : goal.returns-in-Ok
unfolding Runs.run_under
returns-in-Ok c =
    let enum_told = c.in-Ok in
    let a = c.args in
    let pre = c.requires in
    let s = c.shares.ensures (c.if-not-shares.false) in
    let held = pre.1.1.1.1 in
    let r = c.run_on-w.ensures in
    let u = c.run_on-w.new.nodes in
    let whole = r.whole (Runs.start_of a.p) (after_shared a.p a.n a.z.now a.y.now a.b a.nodes.now a.errors.now pre.1.1.0 (held.1 s.0) s.1) in (
      rw (c.of_rows.ensures, c.target_of.ensures) (told_going a.p a.y.now c.run_on-w.result u whole enum_told.is),
      (record { nodes = r.size ∙ held.0.nodes; errors = held.0.errors }, λ on. kept_same a.p a.z.now a.b a.nodes.now u a.errors.now r.size r.below (held.1 on)),
    )
