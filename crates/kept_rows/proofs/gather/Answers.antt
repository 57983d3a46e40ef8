-- Of 79 rows those of the nodes and then the last five are gathered, of 28 the last five.
use Rattle.std.proofs.Common.{◌≡◌, ⊎_elim, arith}
use Rattle.kept_rows.specs.GatherLaws.{gathered_long}
use Rattle.kept_rows.proofs.GatherLaws.{gathered_short}
use Rattle.kept_rows.proofs.gather.Goals as goal

pub returns-then-m-eq79 : goal.returns-then-m-eq79
returns-then-m-eq79 c =
    let taken = c.if-m-eq79.true in
    rw (taken, c.move_rows.ensures) (gathered_long c.args.r.now c.gather_nodes.new.r (omega (arith, c.requires.1)) c.gather_nodes.ensures)

pub returns-else-m-eq79 : goal.returns-else-m-eq79
returns-else-m-eq79 c =
    let few : c.args.m ≡ 28 = ⊎_elim (λ e. e) (λ e. absurd (c.if-m-eq79.false e)) c.requires.0 in
    rw (few, c.move_rows-else-m-eq79.ensures) (gathered_short c.args.r.now (omega (arith, c.requires.1)))
