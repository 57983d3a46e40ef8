-- The eigenaxis plan of a problem's text.
-- ---- meaning
pub mod EigenaxisTexts  -- the plan of what the reader answers
