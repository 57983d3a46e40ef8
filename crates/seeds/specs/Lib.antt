-- The seed's decision.
-- ---- meaning
pub mod Seeds  -- its duration, and its torques allocated and held
-- ---- laws
pub mod RowLaws  -- a loop that copies the first numbers of a list into a row
pub mod SeedLaws  -- which actuators are served, and that these have at most 12 controls a row
