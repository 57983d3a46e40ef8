-- `angles::series::sine_size` meets its contract: eight steps, each from a stage to the next; `sine_end` says that the last is the end.
use Rattle.std.proofs.Common.{◌≤◌, sym, subst, lit≤, rules}
use Rattle.angles.specs.declared.series.Stage.{Stage}
use Rattle.angles.specs.EndedLaws.{sine_end}
use Rattle.angles.proofs.Stages.{count_is}
use Rattle.angles.proofs.series.sine_size.Statement.{statement}
use Rattle.angles.proofs.series.sine_size.Tie as tie

sine-step-requires : tie.Need-sine_step-p1-requires
sine-step-requires c κs = (lit≤ tt, c.requires, c.square_of-square.ensures, c.sine_start-p0.ensures)

sine-step-requires-2 : tie.Need-sine_step-p2-requires
sine-step-requires-2 c κs = (lit≤ tt, c.requires, c.square_of-square.ensures, c.sine_step-p1.ensures)

sine-step-requires-3 : tie.Need-sine_step-p3-requires
sine-step-requires-3 c κs =
    let entry = c.before.before.before.before in
    (lit≤ tt, entry.requires, c.square_of-square.ensures, c.sine_step-p2.ensures)

sine-step-requires-4 : tie.Need-sine_step-p4-requires
sine-step-requires-4 c κs =
    let entry = c.before.before.before.before.before in
    let square-of = c.square_of-square in
    (lit≤ tt, entry.requires, square-of.ensures, c.sine_step-p3.ensures)

sine-step-requires-5 : tie.Need-sine_step-p5-requires
sine-step-requires-5 c κs =
    let entry = c.before.before.before.before.before.before in
    let square-of = c.square_of-square in
    (lit≤ tt, entry.requires, square-of.ensures, c.sine_step-p4.ensures)

sine-step-requires-6 : tie.Need-sine_step-p6-requires
sine-step-requires-6 c κs =
    let entry = c.before.before.before.before.before.before.before in
    let square-of = c.square_of-square in
    (lit≤ tt, entry.requires, square-of.ensures, c.sine_step-p5.ensures)

sine-step-requires-7 : tie.Need-sine_step-p7-requires
sine-step-requires-7 c κs =
    let entry = c.before.before.before.before.before.before.before.before in
    let square-of = c.square_of-square in
    (lit≤ tt, entry.requires, square-of.ensures, c.sine_step-p6.ensures)

sine-step-requires-8 : tie.Need-sine_step-p8-requires
sine-step-requires-8 c κs =
    let entry = c.before.before.before.before.before.before.before.before.before in
    let square-of = c.square_of-square in
    (lit≤ tt, entry.requires, square-of.ensures, c.sine_step-p7.ensures)

closed-requires : tie.Need-closed-requires
closed-requires c κs = subst (λ (q : Stage). q.terms ≤ 9) (sym c.sine_step-p8.ensures) (count_is 1 _ 8).within

returns : tie.Need-returns
returns c =
    let h = c.requires in
    let e = c.closed.ensures 1 _ h c.sine_step-p8.ensures in
    λ b. sine_end b _ _ _ h e.sum e.terms

pub sine_size_spec : {M : Type 1} → statement M
sine_size_spec =
    tie.close
    (tie.spec
    (λ c κs. search rules)
    (λ c κs. search rules)
    sine-step-requires
    sine-step-requires-2
    sine-step-requires-3
    sine-step-requires-4
    sine-step-requires-5
    sine-step-requires-6
    sine-step-requires-7
    sine-step-requires-8
    closed-requires
    returns)
