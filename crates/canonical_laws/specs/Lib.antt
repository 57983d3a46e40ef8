-- One text for one problem.
-- ---- meaning
pub mod Strict  -- the strict form of words: one blank, capitals, no zero that could be dropped
pub mod Pieces  -- what a problem's text consists of, piece by piece, and the canonical text
pub mod Texts  -- which texts are accepted, the problem of a text, its canonical text
pub mod Looks  -- the accepted texts, told without a reader
-- ---- laws
pub mod LookLaws  -- the accepted texts are exactly those that `Looks` tells
pub mod Examples  -- the specification's example and texts near it
pub mod TextLaws  -- a whole text is read as a problem exactly where its pieces stand
pub mod ListLaws  -- the same of the list of actuators
pub mod LineLaws  -- the same of one line
pub mod PackLaws  -- a sorted list of actuators and the record that holds it: each is the other's
pub mod PrintLaws  -- no digit follows a float in a canonical text
pub mod FormLaws  -- what the loose and the strict form of words have in common
pub mod StrictLaws  -- in the strict form reading and writing a pattern are inverse
pub mod CapitalLaws  -- capital digits, one step of the definition at a time
-- ---- inner words of proofs
pub mod Spans  -- pieces that stand in a text between two positions
pub mod Positions  -- what stands at a position, in parts
