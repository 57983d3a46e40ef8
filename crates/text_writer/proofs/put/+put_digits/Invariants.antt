-- `text_writer::put::put_digits` calls itself with fewer places.
use Rattle.text_writer.proofs.put.+put_digits.Given as goal

abbrev pub decreases-put_digits : goal.decreases-put_digits
decreases-put_digits l = l.places
