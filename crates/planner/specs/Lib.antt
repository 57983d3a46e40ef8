-- The planner's two entries.
-- ---- meaning
pub mod Plans  -- the entries: checks, seed, search, end checks, the path
pub mod Blanks  -- no path beside a refusal
pub mod Promises  -- demand 3, whole, and what an entry's answer says
-- ---- laws
pub mod PromisesKept  -- both entries keep demand 3
pub mod HeldKept  -- where the counts of held controls come from
pub mod RunsMost  -- at most 40 × (16 × 12 + 3) + 2 forward runs, a refusal's too
pub mod PlanLaws  -- what the stages answer, in the code's steps
pub mod OutcomeLaws  -- how the outcome of a stage follows from that of the stage before
-- ---- inner words of proofs
pub mod Outcomes  -- what a stage answers and leaves
