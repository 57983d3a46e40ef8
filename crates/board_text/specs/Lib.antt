-- What is printed of a text's samples for the drive board.
-- ---- meaning
pub mod BoardLines  -- the lines, byte for byte, one step a sample
-- ---- laws
pub mod NumberLaws  -- a number printed in decimal is read as itself
pub mod BoardLineLaws  -- what is printed of a sample, in the code's steps
