-- What every list of bytes means as a mosaic's text, or the first line, from 1, that is wrong or missing. Definitions only.
-- Where a text is right its problem stands in it as in a file of its own, from the second line on, so that line k of the problem is line k + 1 of the whole.
use Rattle.std.specs.Prelude.{ℕ, zero, suc, ◌+◌, ◌-◌, ◌≤◌, ◌≡◌, Bool, true, false, cond, ◌&&◌, List, [], ltb, leb, eqb, length, get_or, take, drop, replicate, Result, Ok, Err}
use Rattle.std.specs.Float.Ieee.{eq}
use Rattle.common.specs.Iter.{iter}
use Rattle.geom.specs.declared.Quat.{Quat}
use Rattle.problem.specs.declared.Problem.{Problem}
use Rattle.text.specs.Bytes.{bytes}
use Rattle.text.specs.Lines.{is_at}
use Rattle.problem_text.specs.Reader.{read_problem}
use Rattle.problem_text.specs.declared.Read.{Read}
use Rattle.mosaic_text.specs.TileLines.{no_tile, tile_at, tiles_at}
use Rattle.mosaic_text.specs.declared.ReadMosaic.{ReadMosaic}
use Rattle.mosaic_text.specs.declared.tiles.Tiles.{Tiles}
use Rattle.mosaic_text.specs.declared.tiles.WrongLine.{WrongLine}
use Rattle.common.specs.Refusals.{Fate, refusal, going}

-- beside a refusal stands what the problem's reader gives for no text at all
abbrev pub wrong : ℕ → ReadMosaic
wrong line = record { fate = Err (refusal 21 line); problem = (read_problem []).problem; count = 0; tiles = replicate 64 no_tile }

abbrev pub pick_read : Bool → ReadMosaic → ReadMosaic → ReadMosaic
pick_read true a b = a
pick_read false a b = b

-- ---- the problem's text

-- from position i on, of which at most n are left: behind the first `))` at a line's end, or before the first tile
unfoldable pub end_from : List ℕ → ℕ → ℕ → ℕ
end_from s zero i = i
end_from s (suc n) i = cond (is_at s i (bytes "))\n")) (i + 3) (cond (is_at s i (bytes "\n (tile")) (i + 1) (end_from s n (i + 1)))

-- it begins behind the line `(mosaic`
abbrev pub problem_end : List ℕ → ℕ
problem_end s = end_from s (length s - 8) 8

abbrev pub problem_text : List ℕ → List ℕ
problem_text s = take (problem_end s - 8) (drop 8 s)

-- ---- the place of a refusal

-- Line `line` of the problem's text in the whole. A text that is too long has line 0. None has more lines than bytes: the bound only keeps the sum a number of 64 bits.
unfoldable pub placed : ℕ → ℕ
placed line = cond (eqb line 0) 0 (cond (ltb 16384 line) 16385 (line + 1))

-- the line feeds before position `at`, counted byte by byte
unfoldable pub line_turn : ℕ → ℕ → ℕ → ℕ → ℕ
line_turn line at k byte = cond (leb at k) line (cond (eqb byte 10) (line + 1) line)

-- the number of the line that begins at a position
unfoldable pub line_of : List ℕ → ℕ → ℕ
line_of s at = iter (λ k line. line_turn line at k (get_or s k 0)) 1 (length s)

-- ---- the problem's own attitudes: those of the first tile and of the last

-- number by number: a zero of either sign is 0, and a NaN equals nothing
unfoldable pub same_attitude : Quat → Quat → Bool
same_attitude a b = eq a.w b.w && (eq a.x b.x && (eq a.y b.y && eq a.z b.z))

-- line 3 holds q0, line 4 qf; another count of tiles than 2 to 64 is refused as such, and not judged here
unfoldable pub judge_ends : Quat → Quat → ℕ → List Quat → Fate
judge_ends q0 qf count tiles =
    cond (ltb count 2) going
    (cond (ltb 64 count) going
    (cond (same_attitude q0 (tile_at tiles 0))
    (cond (same_attitude qf (tile_at tiles (count - 1))) going (Err (refusal 21 4)))
    (Err (refusal 21 3))))

-- ---- the whole text

abbrev pub ended_by_value : Fate → Problem → Tiles → ReadMosaic
ended_by_value (Err why) p t = wrong why.place
ended_by_value (Ok _) p t = record { fate = going; problem = p; count = t.count; tiles = t.tiles }

unfoldable pub with_tiles : List ℕ → Problem → Result Tiles WrongLine → ReadMosaic
with_tiles s p (Ok t) = ended_by_value (judge_ends p.q0 p.qf t.count t.tiles) p t
with_tiles s p (Err w) = wrong (line_of s w.at)

abbrev pub read_by : Fate → List ℕ → Problem → Result Tiles WrongLine → ReadMosaic
read_by (Err why) s p t = wrong (placed why.place)
read_by (Ok _) s p t = with_tiles s p t

-- the problem's text is judged first
unfoldable pub mosaic_of : List ℕ → Read → Result Tiles WrongLine → ReadMosaic
mosaic_of s r t = read_by r.fate s r.problem t

unfoldable pub read_parts : List ℕ → ReadMosaic
read_parts s = mosaic_of s (read_problem (problem_text s)) (tiles_at s (problem_end s))

-- the problem and its tiles, or 21 with its line; line 0 over 16,384 bytes
unfoldable pub read_mosaic : List ℕ → ReadMosaic
read_mosaic s = pick_read (ltb 16384 (length s)) (wrong 0) (pick_read (is_at s 0 (bytes "(mosaic\n")) (read_parts s) (wrong 1))

-- ---- a contract: the position is the definition's, and lies behind the first line and within the text
pub record EndIs (s : List ℕ) (r : ℕ) : Type 0 where
  pub is : r ≡ problem_end s
  pub after : 8 ≤ r
  pub within : r ≤ length s
