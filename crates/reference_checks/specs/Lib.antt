-- The checks of a reference, and what a verified reference promises.
-- ---- meaning
pub mod Checks  -- the checks of a sample, of a step, of the start and the end, of all of them
pub mod Promises  -- what a verified reference promises
-- ---- laws
pub mod CaseLaws  -- with wheels and without; a sample that goes on
pub mod StepLaws  -- the loop over the steps, its early way out, its count
pub mod ExactLaws  -- a number that fits its limit does so as an exact number
pub mod PromisesKept  -- a verified reference keeps what it promises
