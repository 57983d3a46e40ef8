-- Equations of commutative rings, by computing.
-- ---- meaning
pub mod Ring  -- what a ring is; expressions and their values
pub mod Polynomials  -- the normal form of an expression
-- ---- laws
pub mod Solver  -- expressions with one normal form are equal (`solve`)
pub mod Integers  -- the whole numbers are a ring (`ringℤ`)
pub mod Examples  -- how it is used
