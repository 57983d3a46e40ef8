-- What the checks have to do with a text.
-- ---- laws
pub mod Accepted  -- a text is accepted exactly where neither 21 nor 1 refuses it
pub mod NoNan  -- a problem that passes the checks has finite numbers alone
