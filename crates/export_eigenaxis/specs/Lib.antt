-- The C interface of eigenaxis plans.
-- ---- meaning
pub mod Entries  -- a shape by its flag, and the eigenaxis plan of a problem as declared
