-- The operations on control rows, over whole maps.
-- ---- meaning
pub mod Controls  -- each operation as a caller has it, on every map and every row
pub mod Answers  -- each answer as a value or as a refusal
-- ---- laws
pub mod SizeLaws  -- when a row is as wide as its parts
