-- What a program's argument says.
-- ---- meaning
-- a number in decimal digits
pub mod Requests
