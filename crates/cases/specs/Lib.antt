-- What the reading of stored cases is.
-- ---- meaning
pub mod Words  -- words in hexadecimal, the floats that they stand for, and when a float is the stored one
