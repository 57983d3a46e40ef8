-- The specification's example and texts near it: what becomes of them, and what the strict form refuses. Assumes nothing.
use Prim.Native.String.{String, ◌++◌}
use Rattle.std.specs.Prelude.{◌≡◌, refl, Err}
use Rattle.std.specs.Float.{nan, binary64}
use Rattle.std.specs.Float.Ieee.{of_bits, of_fields, to_bits, nan_bits}
use Rattle.common.specs.Iter.{iter}
use Rattle.actuators.specs.Maps.{no_actuators}
use Rattle.text.specs.Bytes.{bytes}
use Rattle.text.specs.Hex.{digit, more, hex_at, real_at, digit_byte, hex_text, real_text}
use Rattle.text.specs.Forms.{past, past_blanks}
use Rattle.text.specs.Lines.{is_at, word_at, none_at, row_from, row_at, floats, without_limit, limited, words_at, with_tail, line_at}
use Rattle.problem_text.specs.Listing.{item_at, with_wheel, with_thruster, with_pyramid, with_item, end_at, close_at, next_line, first_line, list_at_value}
use Rattle.problem_text.specs.Reader.{with_row, next_line as lineNext, lines_from, head_at_value, with_list, next_list, judge_count, problem_of, read_of, read_in}
use Rattle.canonical_laws.specs.Strict.{capital, strict_more, strict_hex_at, other_nan, strict_real_at, strict}
use Rattle.canonical_laws.specs.Pieces.{actuators, pieces, print}
use Rattle.canonical_laws.specs.Texts.{canonical}
use Rattle.common.specs.Refusals.{Fate, refusal, going}

-- the example, with what stands for qf, for the momenta and from line 10 on
abbrev text : String → String → String → String
text qf momenta list =
    "(problem\n (q0 3FF 0 0 0)\n (qf " ++ qf ++ ")\n (inertia 3FF 0 0 0 3FF 0 0 0 3FF)\n (limit 3FF 3FF 3FF)\n (slew none)\n (weights 3FF 0 0 0 0 0)\n (tolerance 3EB 3EB)\n (momenta" ++ momenta ++ ")\n" ++ list

abbrev Becomes : String → String → Type 0
Becomes t u = canonical (bytes t) ≡ bytes u

abbrev Strictly : String → Fate → Type 0
Strictly t r = (read_in strict (bytes t)).fate ≡ r

-- blanks, small digits, zeros; -0 is `8`; every NaN is `7FF8`; a list
becomes :
    Becomes (text "  3ff 0  00 0000000000000000" "" " (actuators))\n") (text "3FF 0 0 0" "" " (actuators))\n")
    × Becomes (text "3FF0000000000001 80 7ff1 0" "  aB0" " (actuators\n  (wheel  0 0 1 10 20  none)\n  (cmg 0 0 0 0)))\n") (text "3FF0000000000001 8 7FF8 0" " AB" " (actuators\n  (wheel 0 0 1 1 2 none)\n  (cmg 0 0 0 0)))\n")
unfolding digit more hex_at real_at is_at past past_blanks word_at none_at row_from row_at floats without_limit limited words_at with_tail line_at item_at with_wheel with_thruster with_pyramid with_item end_at close_at next_line first_line list_at_value with_row lineNext lines_from head_at_value with_list next_list judge_count problem_of read_of read_in iter no_actuators actuators pieces print digit_byte hex_text to_bits of_bits of_fields
becomes = (refl, refl)

-- the strict form takes none of what the reader takes besides, and no NaN but 7FF8
strictly :
    Strictly (text "3FF 8 7FF8 0" "" " (actuators))\n") going
    × Strictly (text "3FF  0 0 0" "" " (actuators))\n") (Err (refusal 21 3))
    × Strictly (text "3ff 0 0 0" "" " (actuators))\n") (Err (refusal 21 3))
    × Strictly (text "3FF0 0 0 0" "" " (actuators))\n") (Err (refusal 21 3))
    × Strictly (text "3FF 7FF1 0 0" "" " (actuators))\n") (Err (refusal 21 3))
unfolding digit more hex_at real_at is_at past past_blanks word_at none_at row_from row_at floats without_limit limited words_at with_tail line_at item_at with_wheel with_thruster with_pyramid with_item end_at close_at next_line first_line list_at_value with_row lineNext lines_from head_at_value with_list next_list judge_count problem_of read_of read_in iter no_actuators capital strict_more strict_hex_at other_nan strict_real_at nan_bits
strictly = (refl, refl, refl, refl, refl)

-- 1, -0 and the NaN
written : (real_text (of_bits binary64 0x3ff0_0000_0000_0000) ≡ bytes "3FF") × (real_text (of_bits binary64 0x8000_0000_0000_0000) ≡ bytes "8") × (real_text nan ≡ bytes "7FF8")
unfolding digit_byte hex_text to_bits of_bits of_fields
written = (refl, refl, refl)
