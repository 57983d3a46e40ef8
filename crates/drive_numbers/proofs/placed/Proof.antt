-- `drive_numbers::placed` meets its contract: four cases by sign and size, a law for each; where 32 bits hold the number the casts lose nothing.
use Rattle.std.specs.Prelude.{Some}
use mathlib.Core.Path.{ap, ◌∙◌}
use native.Mathlib.Omega.{arith}
use borrow.Author.Rules.{rules}
use mir.Facts.{to_z_pos}
use mir.Syntax.{w32}
use Rattle.drive_numbers.proofs.PartLaws.{inside_plus, outside_plus, inside_minus, outside_minus}
use Rattle.drive_numbers.proofs.Signs.{off_64, off_32, cut_is}
use Rattle.drive_numbers.proofs.placed.Statement.{statement}
use Rattle.drive_numbers.proofs.placed.Tie as tie

sub-t8 : tie.Need-overflow_sub-result
sub-t8 c = off_64 c.args.n c.if-n-le2147483648.true

cast-t9 : tie.Need-overflow_cast-result-then-n-le2147483648
cast-t9 c = off_32 c.args.n c.if-n-le2147483648.true

returns : tie.Need-returns-then-n-le2147483648
returns c =
    let n = c.args.n in
    rw c.if-minus.true (ap Some (cut_is n c.if-n-le2147483648.true) ∙ inside_minus n c.if-n-le2147483648.true)

returns_2 : tie.Need-returns-else-n-le2147483648
returns_2 c = rw c.if-minus.true (outside_minus c.args.n c.if-n-le2147483648.false)

returns_3 : tie.Need-returns-then-n-le2147483647
returns_3 c =
    let n = c.args.n in
    rw c.if-minus.false (ap Some (to_z_pos w32 {n = n} (omega arith)) ∙ inside_plus n c.if-n-le2147483647.true)

returns-4 : tie.Need-returns-else-n-le2147483647
returns-4 c = rw c.if-minus.false (outside_plus c.args.n c.if-n-le2147483647.false)

pub placed_spec : {M : Type 1} → statement M
placed_spec =
    tie.close (tie.spec (λ c. search rules) sub-t8 cast-t9 (λ c. search rules) returns returns_2 returns_3 returns-4)
