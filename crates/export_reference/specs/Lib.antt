-- The C interface of reference trajectories.
-- ---- meaning
pub mod Rows  -- samples as rows of 31 numbers
pub mod Entries  -- what an entry tells, and what it promises
-- ---- laws
pub mod RowLaws  -- the cases of a row's controls and of the count of rows
