-- A whole mosaic, over any planner of one slew.
-- ---- laws
pub mod Legs  -- what its legs and its sums are, and where it stops
pub mod Cuts  -- a mosaic cut at a tile
pub mod Tiles  -- 2 to 64 tiles, and their cut at an inner tile
pub mod Turns  -- legs one by one go the way of the whole
pub mod Sums  -- durations whose totals do not add up
