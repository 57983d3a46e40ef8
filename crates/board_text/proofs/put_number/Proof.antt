-- `board_text::put_number` meets its contract: a number and 2 ^ 31 make one that is not negative, of which the same is taken away in the text. Assumes nothing.
use native.Mathlib.Omega.{arith}
use lib.IntN.{pos, ◌+ℤ◌}
use lib.Signed.{nat_abs-le}
use mir.Facts.{to_z-of_z}
use Rattle.text_writer.specs.PutLaws.{puts_join}
use Rattle.board_text.specs.BoardLineLaws.{M, widened, sum_fits, sum_plus, sum_back}
use borrow.Author.Rules.{rules}
use Rattle.board_text.proofs.put_number.Statement.{statement}
use Rattle.board_text.proofs.put_number.Tie as tie

abbrev start : tie.After-put_less-arg-1 → tie.Start
start c = c.before.before.before.before.before.before

cast-put-less : tie.Need-overflow_cast-n
cast-put-less c = let h = (start c).ranges.n in rw (to_z-of_z h) (widened _ h)

add-put-less : tie.Need-overflow_add-n
add-put-less c = let h = (start c).ranges.n in rw (to_z-of_z h, to_z-of_z (widened _ h)) (sum_fits _ h)

cast-put-less-2 : tie.Need-overflow_cast-n-2
cast-put-less-2 c =
    let n = (start c).args.n in
    let h = (start c).ranges.n in
    rw (to_z-of_z h, to_z-of_z (widened n h), to_z-of_z (sum_fits n h)) (sum_plus n h, record { fits = omega (arith, nat_abs-le (n +ℤ pos M) (sum_fits n h).sfits) })

returns : tie.Need-returns
returns c =
    let less = c.before.before in
    let n = (start less.before).args.n in
    let h = (start less.before).ranges.n in
    let e = rw (to_z-of_z h, to_z-of_z (widened n h), to_z-of_z (sum_fits n h), ← sum_back n h) at less.put_less.ensures in
    puts_join less.put_byte-i.ensures e

pub put_number_spec : {M : Type 1} → statement M
put_number_spec = tie.close (tie.spec (search rules) cast-put-less add-put-less cast-put-less-2 (search rules) (search rules) returns)
