-- The laws of floats that the planner's promises rest on.
-- ---- laws
pub mod Place  -- the values of a format on one line of whole numbers, by which they are compared
pub mod Order  -- `lt` and `le`: they go over to the places
pub mod Numbers  -- no NaN: from a result back to its operands (`search numbers`)
pub mod Finite  -- finite: from a result back to its operands (`search finites`)
pub mod Signs  -- sign +: sizes, squares, their sums and roots (`search pluses`)
pub mod Clamp  -- clamps: within the limits, twice, odd, nested
pub mod Largest  -- the largest of some floats, where a NaN is dropped
pub mod Rounding  -- rounding of signed sums keeps the order
pub mod Exact  -- the exact value of a finite float
pub mod Limits  -- a control within its limit, and a tolerance of 1e-9, as exact numbers
pub mod Sizes  -- bounds by powers of two, through sums, products and quotients
pub mod Unit  -- lengths near 1, and numbers over them
pub mod Commute  -- operands change places
pub mod Zeros  -- zeros of either sign
pub mod Below  -- facts about every number below n
pub mod Examples  -- the laws at work
