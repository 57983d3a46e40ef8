-- The C interface of the leaves, and the words of every contract of the interface.
-- ---- meaning
pub mod Packed  -- records as the numbers that the interface takes and gives
pub mod Outcomes  -- what a call answers and leaves in what is lent to it
pub mod Courses  -- the profile's operations on numbers
-- ---- laws
pub mod OutcomeLaws  -- what the code reads from how an operation ended is what its answer says
