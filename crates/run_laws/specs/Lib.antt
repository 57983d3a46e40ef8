-- What a forward run with nodes is: finite, bounded, the same when rerun.
-- ---- meaning
pub mod Values  -- words for what holds of lists of floats and of attitudes
-- ---- laws
pub mod Paths  -- `reconstruct` with nodes: what it keeps, and that a rerun gives the same
pub mod Runs  -- sixteen steps that go on
pub mod Steps  -- one step that goes on
pub mod Attitudes  -- what a turn that is not refused says of its vector; sizes of normalized attitudes
pub mod Torques  -- what a finite torque says of its controls; momenta after a step
pub mod Times  -- the nodes' times are finite
pub mod Defects  -- the largest defect is no NaN
pub mod Errors  -- the turn that is left is never refused, and finite
pub mod Bounds  -- what the tests against limits say, as exact numbers
pub mod Decisions  -- a projected decision: each control clamped to its limit
pub mod Checked  -- what the checks leave of a problem
pub mod Prepared  -- what `prepare` leaves of a map
pub mod TestLaws  -- what is past a test that refuses, and both outcomes of a test
