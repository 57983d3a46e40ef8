-- The tiles of a mosaic's text: a line for each, then the line that closes the mosaic, and nothing after it. Definitions only.
use Rattle.std.specs.Prelude.{ℕ, ◌+◌, cond, List, leb, length, get_or, set, replicate, Option, Some, None, Result, Ok, Err}
use Rattle.std.specs.Float.{nan}
use Rattle.common.specs.Floats.{plus_zero}
use Rattle.common.specs.Iter.{iter}
use Rattle.geom.specs.declared.Quat.{Quat}
use Rattle.text.specs.Bytes.{bytes}
use Rattle.text.specs.Forms.{loose}
use Rattle.text.specs.Lines.{LineForm, form, line_at, is_at}
use Rattle.problem_text.specs.Reader.{quat_of}
use Rattle.text.specs.declared.lines.Row.{Row}
use Rattle.text.specs.declared.lines.Words.TheVariants.{Floats}
use Rattle.mosaic_text.specs.declared.tiles.Tiles.{Tiles}
use Rattle.mosaic_text.specs.declared.tiles.WrongLine.{WrongLine}
use Rattle.mosaic_text.specs.declared.tiles.Reading.{Reading}
use Rattle.mosaic_text.specs.declared.tiles.Reading.TheVariants.{More, Closed, Wrong}

-- what stands past the tiles
abbrev pub no_tile : Quat
no_tile = record { w = plus_zero; x = plus_zero; y = plus_zero; z = plus_zero }

-- tile number k; past the end of the list stand NaNs
abbrev pub tile_at : List Quat → ℕ → Quat
tile_at tiles k = get_or tiles k (record { w = nan; x = nan; y = nan; z = nan })

-- an attitude, scalar first
abbrev pub tile_form : LineForm
tile_form = form (bytes " (tile") (Floats 4) (bytes ")\n")

-- ---- one line

-- past the sixty-fourth a tile is counted only
abbrev pub with_tile : Tiles → Row → Tiles
with_tile t r = record { count = t.count + 1; tiles = set t.tiles t.count (quat_of r) }

-- the line at a position is wrong, after these tiles
abbrev pub wrong_line : ℕ → Tiles → WrongLine
wrong_line at t = record { at = at; before = t }

-- a line that is neither a tile nor the end is wrong
abbrev pub tile_by : ℕ → Tiles → Option Row → Reading
tile_by at t (Some r) = More r.at (with_tile t r)
tile_by at t None = Wrong (wrong_line at t)

-- the text ends where the mosaic is closed; what stands after it is wrong
unfoldable pub closed : List ℕ → Tiles → ℕ → Reading
closed s t at = cond (leb (length s) at) (Closed t) (Wrong (wrong_line at t))

unfoldable pub next_line : List ℕ → ℕ → Tiles → Reading
next_line s at t = cond (is_at s at (bytes ")\n")) (closed s t (at + 2)) (tile_by at t (line_at loose s at tile_form))

-- ---- all of them

abbrev pub begun : ℕ → Reading
begun at = More at (record { count = 0; tiles = replicate 64 no_tile })

-- tiles that are closed, or a wrong line, stay as they are
abbrev pub turn : List ℕ → ℕ → Reading → Reading
turn s k (More at t) = next_line s at t
turn s k (Closed t) = Closed t
turn s k (Wrong w) = Wrong w

-- the tiles, or the first wrong line with the tiles before it: where the text ends before the mosaic is closed, that is there
abbrev pub ended : Reading → Result Tiles WrongLine
ended (More at t) = Err (wrong_line at t)
ended (Closed t) = Ok t
ended (Wrong w) = Err w

-- no text has more lines than bytes
unfoldable pub tiles_at : List ℕ → ℕ → Result Tiles WrongLine
tiles_at s at = ended (iter (turn s) (begun at) (length s))
