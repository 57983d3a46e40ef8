-- Theorems on the definitions of specs/.
pub mod Exact  -- the lower float is the lower number
pub mod Limits  -- a tolerance of 1e-9, as exact numbers
mod Examples  -- these laws at work
