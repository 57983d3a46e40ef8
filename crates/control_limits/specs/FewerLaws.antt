-- The smaller of two counts: above neither, and past a third. Assumes nothing.
use Rattle.std.specs.Prelude.{ℕ, ◌+◌, ◌-◌, ◌<◌, ◌≤◌, ◌≡◌, refl, Bool, true, false, cond, ltb}
use Rattle.std.proofs.Common.{sym, arith, le-ltb, ltb-true, ltb-false}
use Rattle.control_limits.specs.Limits.{fewer}

-- a count that is not above another is the smaller
pub fewer_left : (a b : ℕ) → a ≤ b → fewer a b ≡ a
fewer_left a b h = go (ltb a b) (ltb-false a b)
  where
    go : (t : Bool) → (t ≡ false → b ≤ a) → cond t a b ≡ a
    go true p = refl
    go false p = let q : b ≤ a = p refl in omega arith

-- the smaller is above neither
pub fewer_most : (a b : ℕ) → (fewer a b ≤ a) × (fewer a b ≤ b)
fewer_most a b = go (ltb a b) (ltb-true a b) (ltb-false a b)
  where
    go : (t : Bool) → (t ≡ true → a < b) → (t ≡ false → b ≤ a) → (cond t a b ≤ a) × (cond t a b ≤ b)
    go true p q = let h : a < b = p refl in (omega arith, omega arith)
    go false p q = let h : b ≤ a = q refl in (omega arith, omega arith)

-- the smaller of two counts past n
pub fewer_past : (n a b : ℕ) → n ≤ b → n + fewer a (b - n) ≡ fewer (n + a) b
fewer_past n a b h = go (ltb a (b - n)) (ltb-true a (b - n)) (ltb-false a (b - n))
  where
    go : (t : Bool) → (t ≡ true → a < b - n) → (t ≡ false → b - n ≤ a) → n + cond t a (b - n) ≡ fewer (n + a) b
    go true p q = let l : a < b - n = p refl in sym (fewer_left (n + a) b (omega arith))
    go false p q = let l : b - n ≤ a = q refl in rw (le-ltb (n + a) b (omega arith)) (omega arith)
