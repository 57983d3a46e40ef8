-- The end checks, 14 to 19.
-- ---- meaning
pub mod Ends  -- the checks over the run of the decision that was found
-- ---- laws
pub mod EndLaws  -- the loop over the nodes, and its early way out
