-- What the replay of stored texts needs.
-- ---- meaning
pub mod Heads  -- where the parts of a stored text stand
