-- A mosaic's text.
-- ---- meaning
pub mod TileLines  -- the lines of tiles, and the line that closes them
pub mod MosaicTexts  -- what every list of bytes means: a mosaic, or the line that is wrong
-- ---- laws
pub mod MosaicTextLaws  -- the definitions in the code's steps
