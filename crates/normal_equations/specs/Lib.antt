-- The normal equations of a Levenberg-Marquardt step.
-- ---- meaning
pub mod Normal  -- the matrix and the right side, over lists, as `solve` in scvx.rs forms them
pub mod Tab  -- a list by a rule for each place
pub mod Rows  -- a list of numbers read as rows of w, one after the other
pub mod Placed  -- where columns, matrix and right side stand in a workspace
-- ---- laws
pub mod RowsLaws  -- rows: lengths, places, a row or a part that comes back
pub mod TabLaws  -- its length, its places, that its places decide it
pub mod NormalLaws  -- each cell is one sum over the residual rows, in order from +0
-- ---- inner words of proofs
pub mod FilledInner  -- what a storing loop has done so far
pub mod DampInner  -- what a loop that damps a diagonal has done so far
pub mod Inner  -- what the functions inside the crate say of the parts lent to them
