-- Gauss-Jordan elimination.
-- ---- meaning
pub mod Elimination  -- the elimination with partial pivoting, over lists, as `solve_dense` in scvx.rs does it
-- ---- laws
pub mod EliminationLaws  -- what one column does to each cell, and its steps row by row
pub mod TwoColumns  -- two columns at once give what one after the other gives
-- ---- inner words of proofs
pub mod Inner  -- what the functions inside the crate say of the parts lent to them
