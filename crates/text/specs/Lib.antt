-- The words and lines of a text: what the bytes at a position mean.
-- ---- meaning
pub mod Lines  -- a line: what it begins with, its floats, what it ends with
pub mod Hex  -- a float: its bits in hexadecimal
pub mod Forms  -- how the words of a line may be written
pub mod Bytes  -- the bytes of a quoted text
-- ---- laws
pub mod DigitLaws  -- digits, one step of the definition at a time
