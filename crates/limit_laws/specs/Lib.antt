-- Controls held to limits, once or twice. A lab's limits may be nested inside ours.
-- ---- meaning
pub mod Rows  -- what the laws of whole rows speak of: each control's limit, the smaller limits of two maps
-- ---- laws
pub mod Holds  -- one control: held twice, to two limits, negated, in order
pub mod RowLaws  -- the same of a whole row
-- ---- inner words of proofs
pub mod StoreInner  -- what the storing loop leaves, known by its places
