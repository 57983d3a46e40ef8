-- A whole mosaic into lent lists.
-- ---- meaning
pub mod Layout  -- a row for each answered leg
pub mod Filled  -- what the code asks for, and what it answers
-- ---- laws
pub mod Filling  -- k legs are answered, their rows stand, and the mosaic goes on
pub mod Rooms  -- counts of tiles and of lent rows, in the code's steps
