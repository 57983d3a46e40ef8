use Rattle.std.proofs.Common.{◌/◌, ◌%◌, arith}
use Rattle.std.proofs.lemmas.Grind.{common_steps}
use Rattle.reach_avoid.specs.TableLaws.{first_in, first_out}
use Rattle.reach_avoid.proofs.first_entry.Goals.{else-contains-via-then-contains+else-contains-2, else-contains-via-else-contains}
use Rattle.reach_avoid.proofs.first_entry.Goals as goal

pub returns-then-contains-2 : goal.returns-then-contains-2
returns-then-contains-2 c =
    let k = c.args.k in
    first_in (k / 17) (k % 17) (grind (arith, common_steps)) (grind (arith, common_steps)) (grind (arith, common_steps)) (grind (arith, common_steps))

pub returns-else-contains : goal.returns-else-contains
returns-else-contains c =
    let k = c.args.k in
    first_out (k / 17) (k % 17)
    (λ p q r s. elim c.else-contains.branch [ else-contains-via-then-contains+else-contains-2 w ↦ grind (arith, common_steps) | else-contains-via-else-contains w ↦ grind (arith, common_steps) ])
