-- The residual rows that are not always +0.0.
-- ---- meaning
pub mod Kept  -- which rows are left out, where the others stand when they are gathered, and the way back
-- ---- laws
pub mod ZeroLaws  -- which rows are left out, and which are kept
pub mod KeptLaws  -- slopes and normal equations of the gathered rows are those of all rows
-- ---- inner words of proofs
pub mod GatherLaws  -- rows gathered one after the other
