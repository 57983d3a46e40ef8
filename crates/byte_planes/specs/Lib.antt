-- A column of 64-bit words as byte planes, and back.
-- ---- meaning
pub mod Planes  -- what a column's planes are, and the way back
pub mod Calls  -- what the two calls answer, and what they leave in the output
pub mod Answers  -- each answer as a value or as refusal 28
-- ---- laws
pub mod Laws  -- planes and columns are each other's inverses
pub mod CallLaws  -- what the calls refuse, and that what one wrote the other gives back
pub mod DeltaLaws  -- exclusive or undone, word after word
pub mod ByteLaws  -- planes by their bytes, and words by theirs
