-- The bang-coast-bang profile, and the seed that is sampled from it.
-- ---- meaning
pub mod Profiles  -- acceleration, coast, deceleration about one axis; switch times; refusal 7
pub mod Seeds  -- 17 nodes along a profile
pub mod Answers  -- each answer as a value or as a refusal
