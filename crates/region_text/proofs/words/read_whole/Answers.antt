use Rattle.std.proofs.Common.{◌-◌, ◌∙◌, ap, arith, false, length, get_or, drop, length-drop, take_all, eq-eqb, ne_eqb}
use Rattle.region_text.specs.Words.{whole, signed}
use Rattle.region_text.proofs.words.read_whole.Goals as goal

pub returns-in-empty : goal.returns-in-empty
unfolding whole
returns-in-empty c = rw (eq-eqb (length c.args.word.now) 0 (omega arith))

pub returns-in-45 : goal.returns-in-45
unfolding whole
returns-in-45 c =
    let s = c.args.word.now in
    rw (
      ne_eqb (length s) 0 (omega arith),
      eq-eqb (get_or s 0 0) 45 (omega arith),
      c.signed.ensures,
      c.read_requested.ensures,
      take_all (length s - 1) (drop 1 s) (omega (arith, length-drop 1 s)),
    )

pub returns-in_default : goal.returns-in_default
unfolding whole
returns-in_default c =
    let s = c.args.word.now in
    rw (ne_eqb (length s) 0 (omega arith), ne_eqb (get_or s 0 0) 45 (omega arith))
    (c.signed-in_default.ensures ∙ ap (signed false) c.read_requested-in_default.ensures)
