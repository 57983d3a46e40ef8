-- The product rule of quaternions.
-- ---- meaning
pub mod Product  -- the rule and the squared length over any operations
-- ---- laws
pub mod ProductLaws  -- geom's product and dot product are these at the operations of binary64
pub mod Exact  -- over the whole numbers the product is associative, and squared lengths multiply
pub mod Rounded  -- geom's product has neither law: an input for each
