-- A loop that copies the first numbers of a list into a row. Assumes nothing.
use Rattle.std.specs.Prelude.{ℕ, suc, ◌+◌, ◌-◌, ◌<◌, ◌≤◌, ◌≡◌, List, [], ◌∷◌, ◌++◌, length, take, drop, set, Float}
use Rattle.std.proofs.Common.{arith, sym, ◌∙◌, add-one, length-drop, take-suc-set, take-suc, length-take-le}
use Rattle.std.proofs.Math.Seq.{take-length}
use Rattle.std.specs.Float.{nan}
use Rattle.common.specs.Lists.{at, slice}

-- one number more
pub taken_more : (row u : List Float) (i : ℕ) → i < length row → i < length u → take i row ≡ take i u → take (i + 1) (set row i (at u i)) ≡ take (i + 1) u
taken_more row u i h k e = rw (add-one i) (take-suc-set row i (at u i) h ∙ rw e (sym (take-suc u i nan k)))

-- all of them
pub taken_all : (row u : List Float) (i n : ℕ) → i ≡ length row → i ≡ n → take i row ≡ take i u → row ≡ take n u
taken_all row u i n h k e = sym (take-length row) ∙ rw (← h, e, k)

-- the length of a part
pub length_slice : (z : List Float) (a e : ℕ) → e ≤ length z → length (slice a e z) ≡ e - a
length_slice z a e h = length-take-le (e - a) (drop a z) (omega (arith, length-drop a z))
