-- Floats by their bits.
-- ---- meaning
pub mod Bits  -- when two floats are the same bit for bit
-- ---- laws
pub mod BitLaws  -- the same bits are the same float
