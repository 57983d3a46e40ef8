-- The step of a Levenberg-Marquardt iteration.
-- ---- meaning
pub mod Gram  -- a Gram matrix that is kept
-- ---- laws
pub mod StepLaws  -- the normal equations of the columns, solved, are the step; a copy of a Gram matrix keeps it
