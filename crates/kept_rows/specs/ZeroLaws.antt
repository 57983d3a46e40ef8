-- Which rows are left out, and which are kept. Assumes nothing.
use Rattle.std.specs.Prelude.{ℕ, suc, ◌+◌, ◌*◌, ◌<◌, ◌≤◌, ◌≡◌, Bool, true, false, eqb}
use Rattle.std.proofs.Common.{arith, lt-ltb, le-ltb}
use Rattle.kept_rows.specs.Kept.{before_by, before, left_out}

-- ---- which rows are left out: 6 to 22 of 28, 6 + 4k of 79
pub short_out : (i : ℕ) → 6 ≤ i → i < 23 → left_out 28 i ≡ true
short_out i h l = lt-ltb (before 28 i) (before 28 (suc i)) (omega arith)

pub node_out : (k i : ℕ) → k < 17 → 6 + 4 * k ≤ i → i < 7 + 4 * k → left_out 79 i ≡ true
node_out k i b h l = lt-ltb (before 79 i) (before 79 (suc i)) (omega arith)

-- ---- which rows are kept: the first six
pub first_kept : (m i : ℕ) → i < 6 → left_out m i ≡ false
first_kept m i h = le-ltb (before m i) (before m (suc i)) (by (eqb m 79))
  where
    by : (b : Bool) → before_by b (suc i) ≤ before_by b i
    by true = omega arith
    by false = omega arith

-- a node's three pointing rows; the last five, of 79 and of 28
pub point_kept : (k i : ℕ) → 7 + 4 * k ≤ i → i < 10 + 4 * k → left_out 79 i ≡ false
point_kept k i h l = le-ltb (before 79 i) (before 79 (suc i)) (omega arith)

pub last_kept : (i : ℕ) → 74 ≤ i → left_out 79 i ≡ false
last_kept i h = le-ltb (before 79 i) (before 79 (suc i)) (omega arith)

pub last_short_kept : (i : ℕ) → 23 ≤ i → left_out 28 i ≡ false
last_short_kept i h = le-ltb (before 28 i) (before 28 (suc i)) (omega arith)
