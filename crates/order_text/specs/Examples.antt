-- Two tiles by the definitions alone: read, a line that is wrong, and what is printed. Assumes nothing.
use Rattle.std.specs.Prelude.{ℕ, ◌≡◌, refl, List, [], ◌∷◌}
use Rattle.common.specs.Iter.{iter}
use Rattle.text.specs.Bytes.{bytes}
use Rattle.text.specs.Hex.{digit}
use Rattle.text.specs.Lines.{is_at}
use Rattle.text_writer.specs.Texts.{times, digits, counted}
use Rattle.tile_order.specs.Below.{any, sum}
use Rattle.tile_order.specs.Search as Search
use Rattle.tile_order.specs.Answers as Answers
use Rattle.order_text.specs.TileTexts.{digit_turn, number_at, word_at, row_turn, row_at, line_at, table_turn, table_at, width_turn, width_at, budget_at, refused, rows_of, read_tiles}
use Rattle.order_text.specs.OrderTexts.{tiles, ordered_text, ordered, cells, answer, printed}

abbrev text : List ℕ
text = bytes "(tiles\n (budget 7)\n (from 0 5)\n (from 6 0))\n"

is_read : cells (read_tiles text) ≡ 0 ∷ 5 ∷ 6 ∷ 0 ∷ []
unfolding iter digit is_at digit_turn number_at word_at row_turn row_at line_at table_turn table_at width_turn width_at budget_at rows_of read_tiles
is_read = refl

-- the second row has one time: line 4
short_row : read_tiles (bytes "(tiles\n (budget 7)\n (from 0 5)\n (from 6))\n") ≡ refused 4
unfolding iter digit is_at digit_turn number_at word_at row_turn row_at line_at table_turn table_at width_turn width_at budget_at rows_of read_tiles
short_row = refl

is_printed : printed 2 (answer (read_tiles text)) ≡ bytes "(ordered\n (order 0 1)\n (cost 5)\n (placed 1)\n (used-up no)\n (floor 5))\n"
unfolding iter digit is_at digit_turn number_at word_at row_turn row_at line_at table_turn table_at width_turn width_at budget_at rows_of read_tiles any sum times digits counted Search.turn Search.visit Answers.answer tiles ordered_text ordered answer printed
is_printed = refl
