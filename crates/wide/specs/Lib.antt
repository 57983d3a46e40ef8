-- The whole square root.
-- ---- meaning
pub mod Isqrt  -- the whole square root of a number by its binary digits
-- ---- laws
pub mod IsqrtLaws  -- it is the root, alone so, and keeps the order
