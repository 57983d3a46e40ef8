-- `controls::paired` meets its contract: the smaller of two counts is above neither. Assumes nothing.
use borrow.Author.Tests.{le-leb, lt-leb}
use Rattle.controls.specs.Controls as Controls
use Rattle.control_limits.specs.FewerLaws.{fewer_most}
use native.Mathlib.Omega.{arith}
use borrow.Author.Rules.{rules}
use Rattle.controls.proofs.paired.Statement.{statement}
use Rattle.controls.proofs.paired.Tie as tie

returns : tie.Need-returns-then-wheel_count-gt-MAX_WHEELS
unfolding Controls.paired
returns c = (rw (lt-leb _ _ c.if-wheel_count-gt-MAX_WHEELS.true), (search rules, search rules))

returns_2 : tie.Need-returns
unfolding Controls.paired
returns_2 c =
    let m = fewer_most c.args.wheel_count c.args.n in
    (rw (c.fewer.ensures, le-leb _ _ c.if-wheel_count-gt-MAX_WHEELS.false), (omega arith, omega arith))

pub paired_spec : {M : Type 1} → statement M
paired_spec = tie.close (tie.spec returns (λ c κs. search rules) returns_2)
