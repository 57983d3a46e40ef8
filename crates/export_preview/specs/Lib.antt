-- The C interface of previews and starts.
-- ---- meaning
pub mod Numbers  -- momenta, previews and starts as numbers
-- ---- laws
pub mod NumberLaws  -- the numbers of a preview are enough to start it
