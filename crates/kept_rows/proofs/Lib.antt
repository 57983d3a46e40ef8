-- Theorems on the definitions of specs/.
pub mod ZeroLaws  -- the rows left out are +0.0 in the residuals of every decision
pub mod GatherLaws  -- the rows of 28, gathered
