-- Theorems on the definitions of specs/.
pub mod Paths  -- `reconstruct` with nodes: what it keeps
pub mod Residuals  -- a run with nodes is never refused in its residuals; how many there are
