-- Dense samples as whole numbers for the drive board.
-- ---- meaning
pub mod Numbers  -- a float as a whole number of units, and the way back
pub mod Rounding  -- the rounding rule of a part's number
pub mod Drive  -- a sample's 13 numbers, or a refusal
pub mod Lists  -- a path's whole list, up to the first sample that is refused
-- ---- laws
pub mod ListLaws  -- what a list says of its samples
pub mod Examples  -- the rule at some numbers
pub mod NearestLaws  -- the nearest whole number of units, a tie to the even one
pub mod SumLaws  -- a sum with a power of two counts units in its pattern
pub mod BackLaws  -- the float of a number of units is exact
pub mod InnerLaws  -- a sample's parts are inside where those of its rows are
-- ---- inner words of proofs
pub mod Inner  -- what the code keeps on its way: sizes, rows of an attitude and of a vector
