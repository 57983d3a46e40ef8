-- Theorems on the definitions of specs/.
pub mod CommitLaws  -- momenta beside themselves
