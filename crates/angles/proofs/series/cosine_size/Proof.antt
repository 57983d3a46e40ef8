-- `angles::series::cosine_size` meets its contract: eight steps, each from a stage to the next; `cosine_end` says that the last is the end.
use Rattle.std.proofs.Common.{◌≤◌, sym, subst, lit≤, rules}
use Rattle.angles.specs.declared.series.Stage.{Stage}
use Rattle.angles.specs.EndedLaws.{cosine_end}
use Rattle.angles.proofs.Stages.{count_is}
use Rattle.angles.proofs.series.cosine_size.Statement.{statement}
use Rattle.angles.proofs.series.cosine_size.Tie as tie

cosine-step-requires : tie.Need-cosine_step-p1-requires
cosine-step-requires c κs = (lit≤ tt, c.requires, c.square_of-square.ensures, c.cosine_start-p0.ensures _)

cosine-step-requires-2 : tie.Need-cosine_step-p2-requires
cosine-step-requires-2 c κs = (lit≤ tt, c.requires, c.square_of-square.ensures, c.cosine_step-p1.ensures)

cosine-step-requires-3 : tie.Need-cosine_step-p3-requires
cosine-step-requires-3 c κs =
    let entry = c.before.before.before.before in
    (lit≤ tt, entry.requires, c.square_of-square.ensures, c.cosine_step-p2.ensures)

cosine-step-requires-4 : tie.Need-cosine_step-p4-requires
cosine-step-requires-4 c κs =
    let entry = c.before.before.before.before.before in
    let square-of = c.square_of-square in
    (lit≤ tt, entry.requires, square-of.ensures, c.cosine_step-p3.ensures)

cosine-step-requires-5 : tie.Need-cosine_step-p5-requires
cosine-step-requires-5 c κs =
    let entry = c.before.before.before.before.before.before in
    let square-of = c.square_of-square in
    (lit≤ tt, entry.requires, square-of.ensures, c.cosine_step-p4.ensures)

cosine-step-requires-6 : tie.Need-cosine_step-p6-requires
cosine-step-requires-6 c κs =
    let entry = c.before.before.before.before.before.before.before in
    let square-of = c.square_of-square in
    (lit≤ tt, entry.requires, square-of.ensures, c.cosine_step-p5.ensures)

cosine-step-requires-7 : tie.Need-cosine_step-p7-requires
cosine-step-requires-7 c κs =
    let entry = c.before.before.before.before.before.before.before.before in
    let square-of = c.square_of-square in
    (lit≤ tt, entry.requires, square-of.ensures, c.cosine_step-p6.ensures)

cosine-step-requires-8 : tie.Need-cosine_step-p8-requires
cosine-step-requires-8 c κs =
    let entry = c.before.before.before.before.before.before.before.before.before in
    let square-of = c.square_of-square in
    (lit≤ tt, entry.requires, square-of.ensures, c.cosine_step-p7.ensures)

closed-requires : tie.Need-closed-requires
closed-requires c κs = subst (λ (q : Stage). q.terms ≤ 9) (sym c.cosine_step-p8.ensures) (count_is 0 _ 8).within

returns : tie.Need-returns
returns c =
    let h = c.requires in
    let e = c.closed.ensures 0 _ h c.cosine_step-p8.ensures in
    λ b. cosine_end b _ _ _ h e.sum e.terms

pub cosine_size_spec : {M : Type 1} → statement M
cosine_size_spec =
    tie.close
    (tie.spec
    (λ c κs. search rules)
    (λ c κs. search rules)
    cosine-step-requires
    cosine-step-requires-2
    cosine-step-requires-3
    cosine-step-requires-4
    cosine-step-requires-5
    cosine-step-requires-6
    cosine-step-requires-7
    cosine-step-requires-8
    closed-requires
    returns)
