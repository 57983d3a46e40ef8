-- The search of `solve` in scvx.rs.
-- ---- meaning
pub mod Search  -- state, Jacobian, step, trial, iteration, and the whole search
-- ---- laws
pub mod CountLaws  -- how many forward runs it begins
pub mod ColumnLaws  -- the loop over the Jacobian's columns
pub mod EquationLaws  -- the equations that the code forms are the search's
pub mod StepLaws  -- the parts of an iteration by what the code has in hand
pub mod RepeatLaws  -- an iteration at the strongest damping that changes nothing is repeated to the end
-- ---- inner words of proofs
pub mod ProgressInner  -- sizes, and what the code keeps besides a state; with their laws
