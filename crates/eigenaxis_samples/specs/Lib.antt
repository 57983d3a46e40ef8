-- Dense samples of an eigenaxis plan.
-- ---- meaning
pub mod Courses  -- what the samples are taken of, and the acceleration that they are asked for with
-- ---- laws
pub mod CourseLaws  -- the plan of a text, in the code's steps
