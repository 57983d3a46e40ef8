-- Dense samples of a path.
-- ---- meaning
pub mod Counts  -- how many there are
pub mod Rows  -- a path's nodes as rows of numbers
pub mod Samples  -- one sample: at a node, and between two
pub mod Answers  -- each answer as a value or as a refusal
-- ---- laws
pub mod Laws  -- what a user can count on: end nodes, a next node, the rates and momenta at nodes
pub mod CountLaws  -- the count by its outcomes
pub mod SampleLaws  -- a sample by what the code works out on its way
-- ---- inner words of proofs
pub mod CountInner  -- what a part of the count rule asks for
