-- The C interface of a path's dense samples as one list.
-- ---- meaning
pub mod Entries  -- what is asked for, what is told of it, what is written
-- ---- laws
pub mod EntryLaws  -- what the code reads from how a list ended is what is told of it
