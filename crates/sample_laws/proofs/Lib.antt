-- Theorems on the definitions of specs/.
pub mod Rates  -- one sample against its two nodes
pub mod BetweenKept  -- both entries keep it
