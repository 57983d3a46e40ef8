-- What is printed of a mosaic's text.
-- ---- meaning
pub mod LegLines  -- what stands around the legs
pub mod MosaicAnswers  -- a leg at a time, and the whole
-- ---- laws
pub mod MosaicAnswerLaws  -- what is written of a leg, in the code's steps, and of the whole
