-- Whole numbers as differences of two naturals, so that omega decides what is said of them. Assumes nothing.
use Rattle.std.specs.Prelude.{ℕ, zero, suc, ◌+◌, ◌-◌, ◌<◌, ◌≤◌, ◌≡◌, refl, Bool, true, false, not, cond, T, Result, Ok, Err, ltb, leb, ℤ, pos, negsuc, neg_ℤ, nat_abs, ◌+ℤ◌}
use Rattle.std.proofs.Common.{arith, sym, ap, subst, SFits, to_z, of_z, to_z-of_z, ltb-true, ltb-false, leb-true, le-leb}
use Rattle.std.proofs.Math.IntN.{sub_ℕ}
use Rattle.std.specs.Int.Signed.{le_z, lt_z, non_neg}
use Rattle.std.specs.Int.{w64}
use Rattle.std.proofs.lemmas.Bool.{lt-leb}
use Rattle.reach_avoid.specs.LeastLaws.{clash, and_true}
use Rattle.reach_avoid.specs.Room.{within, out_of_range}
use Rattle.reach_avoid.specs.declared.OutOfRange.{OutOfRange}

-- z + b = a
abbrev Diff : ℤ → ℕ → ℕ → Type 0
Diff (pos n) a b = n + b ≡ a
Diff (negsuc n) a b = a + suc n ≡ b

pub record Is (z : ℤ) (a b : ℕ) : Type 0 where
  pub is : Diff z a b

pub sub_is : (a b : ℕ) → Is (sub_ℕ a b) a b
sub_is a b = by (ltb a b) refl
  where
    by : (t : Bool) → ltb a b ≡ t → Is (cond t (negsuc (b - suc a)) (pos (a - b))) a b
    by true e = let h : a < b = ltb-true a b e in omega arith
    by false e = let h : b ≤ a = ltb-false a b e in omega arith

pub is_of : {z : ℤ} (a b : ℕ) → z ≡ sub_ℕ a b → Is z a b
is_of a b e = rw e (sub_is a b)

-- another difference of the same number
pub is_move : {z : ℤ} {a b : ℕ} (c d : ℕ) → Is z a b → a + d ≡ c + b → Is z c d
is_move {z = pos n} c d h e = omega arith
is_move {z = negsuc n} c d h e = omega arith

-- one number for one difference
pub is_one : {z w : ℤ} {a b : ℕ} → Is z a b → Is w a b → z ≡ w
is_one {z = pos n} {w = pos m} h k = ap pos (omega arith)
is_one {z = pos n} {w = negsuc m} h k = absurd (omega arith)
is_one {z = negsuc n} {w = pos m} h k = absurd (omega arith)
is_one {z = negsuc n} {w = negsuc m} h k = ap negsuc (omega arith)

pub is_add : {z w : ℤ} {a b c d : ℕ} → Is z a b → Is w c d → Is (z +ℤ w) (a + c) (b + d)
is_add {z = pos n} {w = pos m} h k = omega arith
is_add {z = pos n} {w = negsuc m} {a} {b} {c} {d} h k = is_move (a + c) (b + d) (sub_is n (suc m)) (omega arith)
is_add {z = negsuc n} {w = pos m} {a} {b} {c} {d} h k = is_move (a + c) (b + d) (sub_is m (suc n)) (omega arith)
is_add {z = negsuc n} {w = negsuc m} h k = omega arith

pub pos_is : (n : ℕ) → Is (pos n) n 0
pos_is n = omega arith

nat_is : {z : ℤ} {a : ℕ} → Is z a 0 → nat_abs z ≡ a
nat_is {z = pos n} e = omega arith
nat_is {z = negsuc n} e = absurd (omega arith)

-- the number counted from -m
pub is_abs : {z : ℤ} {a : ℕ} (m : ℕ) → Is z a m → nat_abs (z +ℤ pos m) ≡ a
is_abs {a} m h = nat_is (is_move a 0 (is_add h (pos_is m)) (omega arith))

low_in : (m : ℕ) {z : ℤ} {a b : ℕ} → Is z a b → b ≤ a + m → le_z (neg_ℤ (pos m)) z ≡ true
low_in zero {z = pos n} h l = le-leb 0 n (omega arith)
low_in zero {z = negsuc n} h l = absurd (omega arith)
low_in (suc m) {z = pos n} h l = refl
low_in (suc m) {z = negsuc n} h l = le-leb n m (omega arith)

low_of : (m : ℕ) {z : ℤ} {a b : ℕ} → Is z a b → le_z (neg_ℤ (pos m)) z ≡ true → b ≤ a + m
low_of zero {z = pos n} h e = omega arith
low_of zero {z = negsuc n} h e = absurd (clash e refl)
low_of (suc m) {z = pos n} h e = omega arith
low_of (suc m) {z = negsuc n} h e = omega (arith, leb-true n m e)

high_in : (m : ℕ) {z : ℤ} {a b : ℕ} → Is z a b → a ≤ b + m → le_z z (pos m) ≡ true
high_in m {z = pos n} h l = le-leb n m (omega arith)
high_in m {z = negsuc n} h l = refl

high_of : (m : ℕ) {z : ℤ} {a b : ℕ} → Is z a b → le_z z (pos m) ≡ true → a ≤ b + m
high_of m {z = pos n} h e = omega (arith, leb-true n m e)
high_of m {z = negsuc n} h e = omega arith

-- a range is two bounds on the difference
pub within_in : (m : ℕ) {z : ℤ} {a b : ℕ} → Is z a b → b ≤ a + m → a ≤ b + m → within m z ≡ true
within_in m {z} h l u = rw (low_in m h l) (high_in m h u)

pub within_of : (m : ℕ) {z : ℤ} {a b : ℕ} → Is z a b → within m z ≡ true → (b ≤ a + m) × (a ≤ b + m)
within_of m {z} h e = let p = and_true (le_z (neg_ℤ (pos m)) z) (le_z z (pos m)) e in (low_of m h p.0, high_of m h p.1)

-- a number in the range is counted from its low end
pub within_is : (m : ℕ) (z : ℤ) → within m z ≡ true → Is z (nat_abs (z +ℤ pos m)) m
within_is m (pos n) e = omega arith
within_is m (negsuc n) e =
    let z : Is (negsuc n) 0 (suc n) = omega arith in
    let l = within_of m z e in
    let i : Is (negsuc n) (m - suc n) m = omega (arith, l.0) in
    subst (λ a. Is (negsuc n) a m) (sym (is_abs m i)) i

-- an order and its opposite
not_ltb : (a b : ℕ) → leb b a ≡ not (ltb a b)
not_ltb a b = by (ltb a b) refl
  where
    by : (t : Bool) → ltb a b ≡ t → leb b a ≡ not t
    by true e = lt-leb b a (ltb-true a b e)
    by false e = le-leb b a (ltb-false a b e)

pub not_lt_z : (a b : ℤ) → le_z b a ≡ not (lt_z a b)
not_lt_z (pos a) (pos b) = not_ltb a b
not_lt_z (pos a) (negsuc b) = refl
not_lt_z (negsuc a) (pos b) = refl
not_lt_z (negsuc a) (negsuc b) = not_ltb b a

-- small differences fit a word
pub sub-fits : (a b : ℕ) → a ≤ 5 → b ≤ 5 → SFits w64 (sub_ℕ a b)
sub-fits a b h k = by (ltb a b)
  where
    by : (t : Bool) → SFits w64 (cond t (negsuc (b - suc a)) (pos (a - b)))
    by true = record { sfits = omega arith }
    by false = record { sfits = omega arith }

pub small : (j : ℕ) → j ≤ 5 → to_z w64 j ≡ pos j
small j h = to_z-of_z {w = w64} {z = pos j} (record { sfits = omega arith })

-- and come back from it
pub sub_back : {z : ℤ} (a b : ℕ) → a ≤ 5 → b ≤ 5 → z ≡ sub_ℕ a b → to_z w64 (of_z w64 z) ≡ sub_ℕ a b
sub_back a b h k e = rw e (to_z-of_z (sub-fits a b h k))

-- r is z counted from -m; refused outside
abbrev pub Counted : ℕ → ℤ → Result ℕ OutOfRange → Type 0
Counted m z (Ok r) = (within m z ≡ true) × (Is z r m) × (r ≤ m + m)
Counted m z (Err e) = within m z ≡ false

pub counted_by_law : (m : ℕ) (z : ℤ) {r : Result ℕ OutOfRange} → m ≤ 64 → r ≡ cond (within m z) (Ok (nat_abs (z +ℤ pos m))) (Err out_of_range) → Counted m z r
counted_by_law m z {r} l h = rw h (by (within m z) refl)
  where
    by : (b : Bool) → within m z ≡ b → Counted m z (cond b (Ok (nat_abs (z +ℤ pos m))) (Err out_of_range))
    by true e = let i = within_is m z e in (e, i, omega (arith, (within_of m i e).1))
    by false e = e

-- the same of a number that comes as a word
pub counted_word : (m : ℕ) {z : ℤ} {r : Result ℕ OutOfRange} → m ≤ 64 → SFits w64 z
    → r ≡ cond (within m (to_z w64 (of_z w64 z))) (Ok (nat_abs (to_z w64 (of_z w64 z) +ℤ pos m))) (Err out_of_range) → Counted m z r
counted_word m {z} l f h = counted_by_law m z l (rw (to_z-of_z f) at h)

-- so counted, it fits a word
pub counted_fits : (m : ℕ) (z : ℤ) → m ≤ 64 → within m z ≡ true → SFits w64 (z +ℤ pos m) × T (non_neg (z +ℤ pos m))
counted_fits m z l e =
    let i = within_is m z e in
    let w = within_of m i e in
    by (z +ℤ pos m) (is_move (nat_abs (z +ℤ pos m)) 0 (is_add i (pos_is m)) (omega arith)) (omega (arith, w.1))
  where
    by : (v : ℤ) {a : ℕ} → Is v a 0 → a ≤ 128 → SFits w64 v × T (non_neg v)
    by (pos n) i h = (record { sfits = omega arith }, tt)
    by (negsuc n) i h = absurd (omega arith)

-- the order of two numbers counted from one place
pub lt_of : {z w : ℤ} {a b m : ℕ} → lt_z z w ≡ true → Is z a m → Is w b m → a < b
lt_of {z = pos x} {w = pos y} e h k = omega (arith, ltb-true x y e)
lt_of {z = pos x} {w = negsuc y} e h k = absurd (clash e refl)
lt_of {z = negsuc x} {w = pos y} e h k = omega arith
lt_of {z = negsuc x} {w = negsuc y} e h k = omega (arith, ltb-true y x e)
