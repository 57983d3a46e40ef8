-- The helpers on floats that the port writes itself, and the square root.
-- ---- meaning
pub mod Ops  -- abs, max, min, clamp and ceil, as Rust has them
pub mod Sqrt  -- the square root of IEEE 754: the exact root, rounded once
-- ---- laws
pub mod OpsLaws  -- max and min where the first is no NaN, ceil at some numbers
pub mod SqrtLaws  -- sqrt over parts: a value of the format, none nearer to the root, the order kept
pub mod SqrtFloats  -- the same over floats; a square's root is exact
-- ---- inner words of proofs
pub mod RootInner  -- what the functions of `root` say on whole numbers
