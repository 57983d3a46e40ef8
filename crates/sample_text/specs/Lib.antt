-- Dense samples of a problem's text.
-- ---- meaning
pub mod SampleTexts  -- one sample in numbers, and what is left of the lent ones
pub mod SampleLines  -- all samples printed, one step a sample
-- ---- laws
pub mod SampleTextLaws  -- what is told of a sample, in the code's steps
pub mod SampleLineLaws  -- what is printed of it, in the code's steps
