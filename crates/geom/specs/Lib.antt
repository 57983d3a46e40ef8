-- Vectors, tensors and quaternions.
-- ---- meaning
pub mod Vec  -- vectors of three numbers, tensors of three rows, Euler's equations
pub mod Halves  -- what is worked out of a sine and a cosine, each by itself or both at once
pub mod Quats  -- quaternions, scalar first: product, length, exponential, logarithm
pub mod Tensors  -- symmetric positive definite tensors, and inverses
pub mod Answers  -- each answer as a value or as a refusal
-- ---- laws
pub mod Tests  -- what a branch tells where it tests the negated answer of a call
pub mod HalvesLaws  -- taking sine and cosine at once is taking each
