-- The C interface of the angles' counts.
-- ---- meaning
pub mod Outcomes  -- what an answer leaves in the numbers lent for it
