-- The forward run.
-- ---- meaning
pub mod Decisions  -- a decision: a duration and 16 rows of controls; its projection
pub mod Steps  -- the step law, stage by stage
pub mod Runs  -- 16 steps and 17 nodes
pub mod Rows  -- nodes as rows of 22 numbers, which can be lent
pub mod Reconstruct  -- `reconstruct` as a user calls it, the checks first
-- ---- laws
pub mod ReconstructLaws  -- what an admitted problem is
pub mod StepLaws  -- what a step needs of the pyramid's skew and matrix, and what it hands on
pub mod RunLaws  -- what the loop of a run leans on
pub mod RowLaws  -- a row that is written is a node that is set
pub mod PartLaws  -- a run part of the way, as the code keeps it, and the rest of its steps
pub mod DefectLaws  -- the largest of the defects by one root
pub mod PastedLaws  -- a part put back keeps the list's length
-- ---- inner words of proofs
pub mod GimbalStartInner  -- what a run makes once: the skew's sine and cosine, the pyramid's first matrix
pub mod StepPartInner  -- a step as its dynamics and its attitude, and that both are the step law's step
