-- The search, the seed's decision and the end checks: what demand 3 rests on.
-- ---- meaning
pub mod Declared  -- what the user declares: controls of a row, limits
pub mod Made  -- which projection made the decision that the search ends in
pub mod Better  -- the seed's decision, or one of a smaller residual length
pub mod Fits  -- f64 holds the numbers of a list
-- ---- laws
pub mod DeclaredLaws  -- a checked problem has what the user declares
pub mod Answers  -- all of it, of a decision that was found and passed the end checks
pub mod MadeLaws  -- every search ends in the seed's decision or in that of the trial last taken
pub mod BetterLaws  -- every search ends in the seed's decision or in one of a smaller residual length
pub mod Keeps  -- one traversal of the search, over any property of its state
pub mod Counts  -- at least one forward run, at most 40 × (16 × controls + 3) + 2
pub mod Begun  -- the seed's residuals are there
pub mod Decisions  -- every decision that is taken up is a projected one
pub mod Seeds  -- the seed's decision is a projected one
pub mod OwnSeed  -- the numbers of our own entry's seed
pub mod Ends  -- what the end checks say where none refuses
pub mod Prepared  -- a prepared map has the numbers that the user declared
pub mod Axes  -- the unit vector of an axis is finite
pub mod Rest  -- wheels that start with +0: a run's start
