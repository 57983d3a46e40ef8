-- `text_writer::put::put_digits`, which calls itself, meets its contract: by induction on the places, the digits before the last, then the last. Assumes nothing.
use Rattle.std.proofs.Common.{arith}
use Rattle.text_writer.proofs.Writing.{digits_one, digits_more, digits_none}
use Rattle.text_writer.specs.PutLaws.{puts_join, puts_most}
use Rattle.text_writer.proofs.put.+put_digits.Goals as goal

pub returns-then-places-eq0 : goal.returns-then-places-eq0
returns-then-places-eq0 t c = digits_none _ _ _ _ c.if-places-eq0.true

pub returns-then-n-lt10 : goal.returns-then-n-lt10
returns-then-n-lt10 t c =
    rw (digits_one c.args.places c.args.n (omega arith) c.if-n-lt10.true) (puts_most (omega arith) (rw c.decimal_byte.ensures at c.put_byte.ensures))

pub returns : goal.returns
returns t c =
    rw (digits_more c.args.places c.args.n (omega arith) c.if-n-lt10.false)
    (puts_most (omega arith) (puts_join c.put_digits-i.ensures (rw c.decimal_byte-2.ensures at c.put_byte-2.ensures)))
