-- What the programs answer.
-- ---- meaning
pub mod Programs  -- the answers of `slew` and `slew_eigenaxis` to a text, and the sentence of a refusal
