-- Theorems on the definitions of specs/.
pub mod Agreement  -- where the body momentum is zero at each step that is begun, both give the same run
pub mod Where  -- runs of which that is so
