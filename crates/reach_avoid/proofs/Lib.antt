-- Theorems on the definitions of specs/.
pub mod PromisesKept  -- the promises hold of every start
pub mod PlayLaws  -- whoever follows an answer always can
