-- Theorems on the definitions of specs/.
pub mod Passed  -- the counts of a problem that passed are within their tables
