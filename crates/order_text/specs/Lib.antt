-- The text of a table of times.
-- ---- meaning
pub mod TileTexts  -- what every list of bytes means: a table, or the line that is wrong
pub mod OrderTexts  -- what is printed of it
-- ---- laws
pub mod Examples  -- two tiles by the definitions alone
pub mod TileTextLaws  -- the reader's definitions, case by case
pub mod OrderTextLaws  -- what is told, in the code's steps
