-- The canonical text of a text.
-- ---- meaning
pub mod CanonicalTexts  -- what is told of a text, and its canonical text in a lent buffer
pub mod Writing  -- the canonical text as the writer puts it, part by part
-- ---- laws
pub mod CanonicalLaws  -- a text is told to go on exactly where it is accepted; the steps by which the code tells it
pub mod WritingLaws  -- the parts that the writer puts make up the canonical text
