-- The residuals of a decision.
-- ---- meaning
pub mod Residuals  -- term by term, in the order of scvx.rs
pub mod Sums  -- the sums in them, each from +0 in order, and the computed length
pub mod Begins  -- what is known of them after a run's first steps
pub mod MeasuredResiduals  -- `residuals` as a user calls it, the checks first
-- ---- laws
pub mod BeginLaws  -- one step more of what is known, and the residuals of a run into rows
pub mod PointLaws  -- the loop over the pointing rows, and the residuals after it
