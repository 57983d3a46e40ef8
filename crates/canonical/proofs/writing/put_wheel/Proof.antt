-- `canonical::writing::put_wheel` meets its contract: the texts that the calls put stand one after another. Assumes nothing.
use lib.Ieee.{nan}
use lib.ListN.{get_or}
use Rattle.canonical_laws.specs.Pieces.{lit, line, limit}
use Rattle.text.specs.Bytes.{bytes}
use mathlib.Core.List.{[], ◌∷◌, ◌++◌}
use native.Mathlib.Omega.{arith}
use Rattle.text_writer.specs.PutLaws.{puts_most}
use Rattle.canonical.specs.WritingLaws.{puts_pieces}
use borrow.Author.Rules.{rules}
use Rattle.canonical.proofs.writing.put_wheel.Statement.{statement}
use Rattle.canonical.proofs.writing.put_wheel.Tie as tie

returns : tie.Need-returns
returns c =
    let last = c.before.before in
    let powered = last.before.before.before.before.before in
    let lined = powered.before.before.before.before in
    let w = lined.args.w in
    let v = get_or w.axis 0 nan ∷ get_or w.axis 1 nan ∷ get_or w.axis 2 nan ∷ w.max_torque_nm ∷ w.max_momentum_nms ∷ [] in
    let numbers = line (bytes "\n  (wheel") v [] in
    let power = limit w.max_power_w ∷ [] in
    puts_most (omega arith)
    (puts_pieces (numbers ++ power) (lit (bytes ")") ∷ [])
    (puts_pieces numbers power lined.put_line-i.ensures powered.put_limit-j.ensures)
    c.put_all.ensures)

pub put_wheel_spec : {M : Type 1} → statement M
put_wheel_spec =
    tie.close
    (tie.spec (λ c. search rules) (λ c. search rules) (λ c. search rules) (λ c. search rules) (λ c κs. search rules) (λ c κs. search rules) (λ c κs. search rules) (λ c. search rules) returns)
