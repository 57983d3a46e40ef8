-- What a refusal means, in words.
-- ---- meaning
pub mod Sentences  -- the table of sentences, and the sentence of each refusal
-- ---- laws
pub mod TableLaws  -- a line of a table told byte by byte, and how long its sentence can be
