-- The problem of the counts and numbers that the C interface takes.
-- ---- meaning
pub mod Declared  -- where each count and number stands, and the record that they declare
