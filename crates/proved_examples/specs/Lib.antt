-- The specification's examples.
-- ---- laws
pub mod Examples  -- the examples in one list: what the definitions work out beside what is stated, and one fact over all
