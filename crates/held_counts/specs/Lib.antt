-- How many controls are held at each place of a row.
-- ---- meaning
pub mod Counts  -- the count of a place, over the decision before its projection
-- ---- laws
pub mod CountLaws  -- what stands at each place: 0 past a row's controls, at most 16
