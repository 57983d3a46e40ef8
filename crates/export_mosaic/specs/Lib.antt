-- The C interface of mosaics.
-- ---- meaning
pub mod Cursors  -- a cursor as counts and numbers, and the mosaics of a problem as declared
-- ---- laws
pub mod Told  -- what the code makes of a leg and of a whole mosaic is what the definitions say
