-- Ask, then commit.
-- ---- meaning
pub mod Previews  -- a preview plans from the momenta on record; a start takes it, and the record
