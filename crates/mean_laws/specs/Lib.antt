-- The weighted mean of two floats.
-- ---- meaning
pub mod Means  -- the mean, and what is said of it
-- ---- laws
pub mod MeanLaws  -- for every fraction from 0 to 1 it is finite and hardly larger than the larger part
pub mod Fractions  -- a computed fraction of finite times is from 0 to 1
pub mod Weights  -- the fractions 0 and 1
pub mod Rounded  -- the mean of values of either format, rounded at each step
pub mod Results  -- sizes of rounded products and sums
pub mod Bounds  -- how large a mean is, over whole numbers
pub mod Totals  -- why it stays below the overflow, over whole numbers
pub mod Grids  -- how far rounding to p digits goes, over whole numbers
