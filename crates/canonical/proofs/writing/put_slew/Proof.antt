-- `canonical::writing::put_slew` meets its contract: the texts that the calls put stand one after another. Assumes nothing.
use Rattle.canonical_laws.specs.Pieces.{lit, limit}
use mathlib.Core.List.{[], ◌∷◌}
use Rattle.text.specs.Bytes.{bytes}
use native.Mathlib.Omega.{arith}
use Rattle.text_writer.specs.PutLaws.{puts_most}
use Rattle.canonical.specs.WritingLaws.{puts_piece, puts_pieces}
use borrow.Author.Rules.{rules}
use Rattle.canonical.proofs.writing.put_slew.Statement.{statement}
use Rattle.canonical.proofs.writing.put_slew.Tie as tie

returns : tie.Need-returns
returns c =
    let last = c.before.before in
    let limited = last.before.before.before.before.before in
    let begun = limited.before.before.before.before in
    let slew = begun.args.slew in
    let head = lit (bytes " (slew") in
    let tail = lit (bytes ")\n") in
    puts_most (omega arith)
    (puts_pieces (head ∷ limit slew ∷ []) (tail ∷ [])
    (puts_pieces (head ∷ []) (limit slew ∷ []) (puts_piece head c.put_all-i.ensures) limited.put_limit-j.ensures)
    (puts_piece tail last.put_all.ensures))

pub put_slew_spec : {M : Type 1} → statement M
put_slew_spec = tie.close (tie.spec (λ c κs. search rules) (λ c κs. search rules) (λ c κs. search rules) (λ c. search rules) returns)
