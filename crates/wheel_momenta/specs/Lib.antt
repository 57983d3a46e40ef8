-- The wheels' momenta from one slew to the next.
-- ---- meaning
pub mod Successive  -- the momenta that a path ends with, and a problem that starts with given ones
