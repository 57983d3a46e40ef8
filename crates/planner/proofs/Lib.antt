-- What the proofs of both entries use.
mod Fitting
pub mod RefusalLaws  -- beside a refusal stands no path
pub mod PromisesKept  -- what both entries answer
pub mod PlanLaws  -- what is left in the workspace after two calls
pub mod OutcomeLaws  -- the outcome of a stage that searched
