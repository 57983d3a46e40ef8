-- Eigenaxis plans.
-- ---- meaning
pub mod Ladders  -- which durations are tried, in which order, and the answer that stands at the end
pub mod Keeps  -- what is promised of the answer, and what every try keeps
-- ---- laws
pub mod Bounds  -- at most 29 tries of 7,802 forward runs each
pub mod LadderLaws  -- what tries keep, in the code's steps
