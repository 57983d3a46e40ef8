-- `forward::steps::step_pyramid` meets its contract: the matrix made of the skew is the pyramid's (`pyramid_steps`), and the tests are the definition's.
use lib.Ieee as Ieee
use mathlib.Core.Path.{◌≡◌, refl, sym, ◌∙◌}
use Rattle.forward.specs.Steps as Steps
use Rattle.forward.specs.StepLaws.{pyramid_steps, gimbals_matrix, row_room}
use native.Mathlib.Omega.{arith}
use Rattle.forward.proofs.steps.step_pyramid.Goals as goal

pub returns-then-singularity_of-p : goal.returns-then-singularity_of-p
unfolding Ieee.of_bits
returns-then-singularity_of-p c =
    let gimbals-next = c.gimbals_next-e in
    let pyramid-known = c.pyramid_known-m in
    let enum-told2 = c.in-Ok in
    rw (← pyramid_steps c.args.p c.args.u.now c.args.d c.args.dt c.args.k c.args.known.skew c.requires.1.0 gimbals-next.ensures pyramid-known.ensures, enum-told2.is, ← c.singularity_of.ensures, c.if-singularity_of-p.true)

pub returns-in-Err : goal.returns-in-Err
returns-in-Err c =
    let gimbals-next = c.gimbals_next-e in
    rw (← pyramid_steps c.args.p c.args.u.now c.args.d c.args.dt c.args.k c.args.known.skew c.requires.1.0 gimbals-next.ensures c.pyramid_known-m.ensures, c.in-Err.is)

pub returns-else-singularity_of-p : goal.returns-else-singularity_of-p
returns-else-singularity_of-p c =
    let gimbals-next = c.gimbals_next-e in
    let pyramid-known = c.pyramid_known-m in
    let enum-told2 = c.in-Ok in
    rw (← pyramid_steps c.args.p c.args.u.now c.args.d c.args.dt c.args.k c.args.known.skew c.requires.1.0 gimbals-next.ensures pyramid-known.ensures, enum-told2.is, ← c.singularity_of.ensures, c.if-singularity_of-p.false)
