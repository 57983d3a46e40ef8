-- What is printed, byte for byte, and what is left of the lent buffer.
-- ---- meaning
pub mod Texts  -- paths, refusals and samples as bytes
pub mod Puts  -- bytes put into a buffer
-- ---- laws
pub mod PutLaws  -- one text after another, and a buffer that has room for the whole
