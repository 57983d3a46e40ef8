-- Sine, cosine and arc cosine in whole numbers scaled by 2 ^ 60.
-- ---- meaning
pub mod Angles  -- sin and cos: the reduction, the two series, the ring of four, one rounding
pub mod Arcs  -- acos: sixty terms over a whole square root, one rounding
pub mod Both  -- sine and cosine at once
pub mod Ended  -- the same series, each ended at its first zero term, with the count of its terms
pub mod Exact  -- the exact partial sums as fractions, and what it is to lie within 2 ^ -50 of one
pub mod Answers  -- each answer as a value or as refusal 11
-- ---- laws
pub mod EndedLaws  -- a series that ends is the full one, and its count is the least that can be
pub mod AccuracyLaws  -- sin and cos lie within 2 ^ -50 of the exact partial sum
pub mod SeriesLaws  -- the series at a signed number, from those of its size
pub mod ReductionLaws  -- quarters and rest of a signed number, from those of its size
pub mod NearLaws  -- the series over sizes against the exact partial sum
pub mod RoundedLaws  -- what the last rounding adds to that
-- ---- inner words of proofs
pub mod SizesInner  -- the recipes over sizes (natural numbers), as the code works them out
pub mod EndedInner  -- a series on its way: its terms over sizes, and from which size on each is not zero
