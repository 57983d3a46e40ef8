-- A problem's text.
-- ---- meaning
pub mod Reader  -- what every list of bytes means: a problem, or the line that is wrong
pub mod Listing  -- the list of actuators in it
-- ---- laws
pub mod Examples  -- the specification's example and texts near it
