-- A mosaic's legs one by one.
-- ---- meaning
pub mod Mosaics  -- what a mosaic is, over any planner of one slew
pub mod Ways  -- the ways in which a leg is planned, and what each promises of its answer
pub mod Turns  -- what the turns of the code ask for and answer, the promises of an answered leg among it
-- ---- laws
pub mod WayLaws  -- by either way: how many runs a leg can have, and its promises
