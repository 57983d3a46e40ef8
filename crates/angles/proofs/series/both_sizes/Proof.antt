-- `angles::series::both_sizes` meets its contract: eight steps of each series, each from stage to stage; `sine_end` and `cosine_end` close them.
use Rattle.std.proofs.Common.{◌≤◌, sym, subst, lit≤, rules}
use Rattle.angles.specs.declared.series.Stage.{Stage}
use Rattle.angles.specs.EndedLaws.{sine_end, cosine_end}
use Rattle.angles.proofs.Stages.{count_is}
use Rattle.angles.proofs.series.both_sizes.Statement.{statement}
use Rattle.angles.proofs.series.both_sizes.Tie as tie

cosine-step-requires : tie.Need-cosine_step-c1-requires
cosine-step-requires c κs = (lit≤ tt, c.requires, c.square_of-square.ensures, c.cosine_start-c0.ensures _)

sine-step-requires : tie.Need-sine_step-s1-requires
sine-step-requires c κs =
    let entry = c.before.before.before.before in
    (lit≤ tt, entry.requires, c.square_of-square.ensures, c.sine_start-s0.ensures)

cosine-step-requires-2 : tie.Need-cosine_step-c2-requires
cosine-step-requires-2 c κs =
    let entry = c.before.before.before.before.before in
    let square-of = c.square_of-square in
    (lit≤ tt, entry.requires, square-of.ensures, c.cosine_step-c1.ensures)

sine-step-requires-2 : tie.Need-sine_step-s2-requires
sine-step-requires-2 c κs =
    let entry = c.before.before.before.before.before.before in
    let square-of = c.square_of-square in
    (lit≤ tt, entry.requires, square-of.ensures, c.sine_step-s1.ensures)

cosine-step-requires-3 : tie.Need-cosine_step-c3-requires
cosine-step-requires-3 c κs =
    let entry = c.before.before.before.before.before.before.before in
    let square-of = c.square_of-square in
    (lit≤ tt, entry.requires, square-of.ensures, c.cosine_step-c2.ensures)

sine-step-requires-3 : tie.Need-sine_step-s3-requires
sine-step-requires-3 c κs =
    let entry = c.before.before.before.before.before.before.before.before in
    let square-of = c.square_of-square in
    (lit≤ tt, entry.requires, square-of.ensures, c.sine_step-s2.ensures)

cosine-step-requires-4 : tie.Need-cosine_step-c4-requires
cosine-step-requires-4 c κs =
    let entry = c.before.before.before.before.before.before.before.before.before in
    let square-of = c.square_of-square in
    (lit≤ tt, entry.requires, square-of.ensures, c.cosine_step-c3.ensures)

sine-step-requires-4 : tie.Need-sine_step-s4-requires
sine-step-requires-4 c κs =
    let entry = c.before.before.before.before.before.before.before.before.before.before in
    let square-of = c.square_of-square in
    (lit≤ tt, entry.requires, square-of.ensures, c.sine_step-s3.ensures)

cosine-step-requires-5 : tie.Need-cosine_step-c5-requires
cosine-step-requires-5 c κs =
    let entry = c.before.before.before.before.before.before.before.before.before.before.before in
    let square-of = c.square_of-square in
    (lit≤ tt, entry.requires, square-of.ensures, c.cosine_step-c4.ensures)

sine-step-requires-5 : tie.Need-sine_step-s5-requires
sine-step-requires-5 c κs =
    let entry = c.before.before.before.before.before.before.before.before.before.before.before.before in
    let square-of = c.square_of-square in
    (lit≤ tt, entry.requires, square-of.ensures, c.sine_step-s4.ensures)

cosine-step-requires-6 : tie.Need-cosine_step-c6-requires
cosine-step-requires-6 c κs =
    let entry = c.before.before.before.before.before.before.before.before.before.before.before.before.before in
    let square-of = c.square_of-square in
    (lit≤ tt, entry.requires, square-of.ensures, c.cosine_step-c5.ensures)

sine-step-requires-6 : tie.Need-sine_step-s6-requires
sine-step-requires-6 c κs =
    let entry = c.before.before.before.before.before.before.before.before.before.before.before.before.before.before in
    let square-of = c.square_of-square in
    (lit≤ tt, entry.requires, square-of.ensures, c.sine_step-s5.ensures)

cosine-step-requires-7 : tie.Need-cosine_step-c7-requires
cosine-step-requires-7 c κs =
    let entry = c.before.before.before.before.before.before.before.before.before.before.before.before.before.before.before in
    let square-of = c.square_of-square in
    (lit≤ tt, entry.requires, square-of.ensures, c.cosine_step-c6.ensures)

sine-step-requires-7 : tie.Need-sine_step-s7-requires
sine-step-requires-7 c κs =
    let entry = c.before.before.before.before.before.before.before.before.before.before.before.before.before.before.before.before in
    let square-of = c.square_of-square in
    (lit≤ tt, entry.requires, square-of.ensures, c.sine_step-s6.ensures)

cosine-step-requires-8 : tie.Need-cosine_step-c8-requires
cosine-step-requires-8 c κs =
    let entry = c.before.before.before.before.before.before.before.before.before.before.before.before.before.before.before.before.before in
    let square-of = c.square_of-square in
    (lit≤ tt, entry.requires, square-of.ensures, c.cosine_step-c7.ensures)

sine-step-requires-8 : tie.Need-sine_step-s8-requires
sine-step-requires-8 c κs =
    let entry = c.before.before.before.before.before.before.before.before.before.before.before.before.before.before.before.before.before.before in
    let square-of = c.square_of-square in
    (lit≤ tt, entry.requires, square-of.ensures, c.sine_step-s7.ensures)

closed-requires : tie.Need-closed-s-requires
closed-requires c κs = subst (λ (q : Stage). q.terms ≤ 9) (sym c.sine_step-s8.ensures) (count_is 1 _ 8).within

closed-requires-2 : tie.Need-closed-c-requires
closed-requires-2 c κs = subst (λ (q : Stage). q.terms ≤ 9) (sym c.cosine_step-c8.ensures) (count_is 0 _ 8).within

returns : tie.Need-returns
returns c =
    let h = c.requires in
    let s = c.closed-s.ensures 1 _ h c.sine_step-s8.ensures in
    let k = c.closed-c.ensures 0 _ h c.cosine_step-c8.ensures in
    λ b. (sine_end b _ _ _ h s.sum s.terms, cosine_end b _ _ _ h k.sum k.terms)

pub both_sizes_spec : {M : Type 1} → statement M
both_sizes_spec =
    tie.close
    (tie.spec
    (λ c κs. search rules)
    (λ c κs. search rules)
    (λ c κs. search rules)
    cosine-step-requires
    sine-step-requires
    cosine-step-requires-2
    sine-step-requires-2
    cosine-step-requires-3
    sine-step-requires-3
    cosine-step-requires-4
    sine-step-requires-4
    cosine-step-requires-5
    sine-step-requires-5
    cosine-step-requires-6
    sine-step-requires-6
    cosine-step-requires-7
    sine-step-requires-7
    cosine-step-requires-8
    sine-step-requires-8
    closed-requires
    closed-requires-2
    returns)
