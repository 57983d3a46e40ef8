-- Theorems on the definitions of specs/.
pub mod Canonical  -- what is written is read back; one text for one problem; exactly the strict texts are canonical
pub mod Shorter  -- the same float has the same digits, and a canonical text is never the longer one
pub mod PrintLaws  -- a canonical text is short
