-- Gimbal angles whose sines and cosines are known.
-- ---- meaning
pub mod Known  -- a table of angles with their sines and cosines, and when it is right
-- ---- laws
pub mod KnownLaws  -- an empty table is right, and one more angle keeps it so
