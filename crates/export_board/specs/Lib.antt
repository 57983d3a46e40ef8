-- The C interface of the drive board's numbers.
-- ---- meaning
pub mod Units  -- a unit by its flag
pub mod BoardAnswers  -- what a call tells of a sample and of a list
-- ---- laws
pub mod Told  -- what the code reads from how a list ended is what its answer says
