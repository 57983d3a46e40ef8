-- Reference trajectories: preparation, the search over durations, the entry.
-- ---- meaning
pub mod Layouts  -- the actuators in one table
pub mod Prepare  -- the reference of a checked problem
pub mod Search  -- the shortest duration that doubling and bisection find
pub mod Plans  -- the reference of a problem, and what its answer says
-- ---- laws
pub mod CaseLaws  -- no pyramid
pub mod CountLaws  -- a table has at most 12 axes
pub mod SearchLaws  -- its trials, its counts, its answer
pub mod PlanLaws  -- what a refusal says
