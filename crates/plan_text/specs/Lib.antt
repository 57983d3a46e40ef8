-- What is printed of a problem's text.
-- ---- meaning
pub mod PlanTexts  -- the plan of a text, its bytes, and what is left of the lent buffers
-- ---- laws
pub mod PlanTextLaws  -- what is told, in the code's steps
