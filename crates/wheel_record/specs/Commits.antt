-- The second half of "ask, then commit": momenta wheel by wheel, and what a start makes of those on record. Definitions only.
use Rattle.std.specs.Prelude.{ℕ, ◌+◌, Bool, cond, ◌&&◌, ltb, eqb, Err}
use Rattle.common.specs.Iter.{iter}
use Rattle.common.specs.Lists.{at}
use Rattle.problem.specs.declared.Momenta.{Momenta}
use Rattle.float_bits.specs.Bits.{same_bits}
use Rattle.wheel_record.specs.declared.Started.{Started}
use Rattle.common.specs.Refusals.{refusal, going}

-- both have wheel k, and with the same bits: a wheel that only one of them has differs
unfoldable pub same_wheel : Momenta → Momenta → ℕ → Bool
same_wheel m n k = ltb k m.count && (ltb k n.count && same_bits (at m.at k) (at n.at k))

-- how many of the eight wheels, from the first on, are the same in both: where the first k are, and wheel k as well
abbrev pub leading_turn : Momenta → Momenta → ℕ → ℕ → ℕ
leading_turn m n k r = cond (eqb r k && same_wheel m n k) (k + 1) r

unfoldable pub leading_same : Momenta → Momenta → ℕ
leading_same m n = iter (leading_turn m n) 0 8

-- these are all the wheels of both
abbrev pub same : Momenta → Momenta → Bool
same m n = eqb (leading_same m n) m.count && eqb (leading_same m n) n.count

-- 26 at a wheel, and the record as it was
abbrev pub not_started : Momenta → ℕ → Started
not_started m wheel = record { fate = Err (refusal 26 wheel); on_record = m }

abbrev pub started : Momenta → Started
started last = record { fate = going; on_record = last }

-- A start beside the momenta m on record, of a preview that began from `began`. Its path's last momenta become the record if the record still has the bits that it began from; else 26 at the first wheel that
-- differs. A preview that was refused has no path to start: 26 at place 0.
unfoldable pub commit : Momenta → Bool → Momenta → Momenta → Started
commit m answered began last = cond answered (cond (same m began) (started last) (not_started m (leading_same m began))) (not_started m 0)
