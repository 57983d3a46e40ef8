-- All dense samples of a path as one list.
-- ---- meaning
pub mod Lists  -- the list of the samples by index, up to the first that is refused
-- ---- laws
pub mod WalkLaws  -- the walk to a later time goes on where an earlier one's ended
pub mod StageLaws  -- a sample by its three stages
-- ---- inner words of proofs
pub mod StagesInner  -- what the code keeps on its way: what a step's samples share, the stages of a sample
