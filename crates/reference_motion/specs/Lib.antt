-- Samples of a reference trajectory.
-- ---- meaning
pub mod Motion  -- the shape of the rotation, its rotation vector, rate and acceleration
pub mod Momenta  -- wheel momenta by conservation, wheel torques, thrusts; a sample
-- ---- laws
pub mod CaseLaws  -- with wheels and without
