-- The problem, and the checks of it.
-- ---- meaning
pub mod Problems  -- checks 1 to 6 and 22 in their order, and the problem that passed them
pub mod Starts  -- check 22: the momenta that the wheels start with
pub mod Answers  -- what the checks answer: a checked problem or a refusal
-- ---- laws
pub mod StartLaws  -- the starts of a problem that passed: finite, within their limits, in their places
