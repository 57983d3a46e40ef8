-- The C interface of a controller: what its contracts cite besides the libraries' own definitions.
-- ---- meaning
pub mod Entries  -- the planner's entries on a problem as declared, and what a call tells of their answers
-- ---- laws
pub mod Told  -- what the code reads from how an entry ended is what its answer says
