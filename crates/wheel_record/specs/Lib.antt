-- The wheels' momenta on record.
-- ---- meaning
pub mod Commits  -- momenta wheel by wheel, and what a start makes of the record
-- ---- laws
pub mod CommitLaws  -- which wheel 26 names, and the record after a start
