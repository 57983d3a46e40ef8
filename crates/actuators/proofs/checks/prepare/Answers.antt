-- The tests of the counts are the definition's, and each stage takes the map of the one before it.
use borrow.Author.Rules.{rules}
use borrow.Author.Tests.{lt-ltb, le-ltb}
use Rattle.std.proofs.Common.{arith, refl, Err}
use Rattle.common.specs.IterLaws.{iter_none, iter_stays}
use Rattle.actuators.specs.Prepare as Prepare
use Rattle.actuators.proofs.checks.prepare.Goals as goal

pub returns-then-a-gt-MAX_WHEELS : goal.returns-then-a-gt-MAX_WHEELS
unfolding Prepare.prepare
returns-then-a-gt-MAX_WHEELS c = rw (lt-ltb _ _ c.if-a-gt-MAX_WHEELS.true)

pub returns-then-a-gt-MAX_THRUSTERS : goal.returns-then-a-gt-MAX_THRUSTERS
unfolding Prepare.prepare
returns-then-a-gt-MAX_THRUSTERS c = rw (le-ltb _ _ c.if-a-gt-MAX_WHEELS.false, lt-ltb _ _ c.if-a-gt-MAX_THRUSTERS.true)

pub returns-in_err-wheeled : goal.returns-in_err-wheeled
unfolding Prepare.prepare Prepare.filled Prepare.thrusters_checked Prepare.thruster_next Prepare.cmgs_next
returns-in_err-wheeled c =
    let stays = iter_stays (Prepare.thruster_turn c.args.a.thrusters) (Err c.in_err-wheeled.field-0.0) 0 c.args.a.thruster_count (omega arith) (iter_none _ _) (λ j. refl) in
    rw (
      le-ltb _ _ c.if-a-gt-MAX_WHEELS.false,
      le-ltb _ _ c.if-a-gt-MAX_THRUSTERS.false,
      ← c.unfilled-start.ensures,
      ← c.wheels_checked.ensures,
      c.in_err-wheeled.was,
      ← stays,
    )
    (search rules)

pub returns-in_err-map : goal.returns-in_err-map
unfolding Prepare.prepare Prepare.filled Prepare.cmgs_next
returns-in_err-map c =
    rw (
      le-ltb _ _ c.if-a-gt-MAX_WHEELS.false,
      le-ltb _ _ c.if-a-gt-MAX_THRUSTERS.false,
      ← c.unfilled-start.ensures,
      ← c.wheels_checked.ensures,
      c.in_ok-wheeled.was,
      ← c.thrusters_checked.ensures,
      c.in_err-map.was,
    )
    (search rules)

pub returns-in_err-check_cmgs : goal.returns-in_err-check_cmgs
unfolding Prepare.prepare Prepare.filled Prepare.cmgs_next
returns-in_err-check_cmgs c =
    rw (
      le-ltb _ _ c.if-a-gt-MAX_WHEELS.false,
      le-ltb _ _ c.if-a-gt-MAX_THRUSTERS.false,
      ← c.unfilled-start.ensures,
      ← c.wheels_checked.ensures,
      c.in_ok-wheeled.was,
      ← c.thrusters_checked.ensures,
      c.in_ok-map.was,
      ← c.check_cmgs.ensures,
      c.in_err-check_cmgs.was,
    )
    (search rules)

pub returns : goal.returns
unfolding Prepare.prepare Prepare.filled Prepare.cmgs_next
returns c =
    rw (
      le-ltb _ _ c.if-a-gt-MAX_WHEELS.false,
      le-ltb _ _ c.if-a-gt-MAX_THRUSTERS.false,
      ← c.unfilled-start.ensures,
      ← c.wheels_checked.ensures,
      c.in_ok-wheeled.was,
      ← c.thrusters_checked.ensures,
      c.in_ok-map.was,
      ← c.check_cmgs.ensures,
      c.in_ok-check_cmgs.was,
    )
