-- What is printed of drive against draught.
-- ---- meaning
pub mod RegionTexts  -- the lines, byte for byte
pub mod Words  -- how an argument is read: a whole number in decimal
-- ---- laws
pub mod TextLaws  -- a choice, small words, what is printed of an answer
