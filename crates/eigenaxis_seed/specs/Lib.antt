-- The eigenaxis seed.
-- ---- meaning
pub mod Shapes  -- how the rate goes about the axis: 17 heights in whole numbers
pub mod Seeds  -- the torques that take the rate from height to height under the step law
-- ---- laws
pub mod ShapeLaws  -- the heights sum to the area; the gentle ones are the wave that they stand for
