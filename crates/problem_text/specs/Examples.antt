-- The specification's example and texts near it, read by the definition. Assumes nothing.
use Prim.Native.String.{String, ◌++◌}
use Rattle.std.specs.Prelude.{◌≡◌, refl, Err}
use Rattle.common.specs.Iter.{iter}
use Rattle.actuators.specs.Maps.{no_actuators}
use Rattle.text.specs.Bytes.{bytes}
use Rattle.text.specs.Hex.{digit, more, hex_at, real_at}
use Rattle.text.specs.Forms.{past, past_blanks}
use Rattle.text.specs.Lines.{is_at, word_at, none_at, row_from, row_at, floats, without_limit, limited, words_at, with_tail, line_at}
use Rattle.problem_text.specs.Listing.{item_at, with_wheel, with_thruster, with_pyramid, with_item, end_at, close_at, next_line, first_line, list_at_value}
use Rattle.problem_text.specs.Reader.{with_row, next_line as lineNext, lines_from, head_at_value, with_list, next_list, judge_count, problem_of, read_of, read_in, read_problem}
use Rattle.common.specs.Refusals.{Fate, refusal, going}

-- the example, with what stands for qf, for the momenta and from line 10 on
abbrev text : String → String → String → String
text qf momenta list =
    "(problem\n (q0 3FF 0 0 0)\n (qf " ++ qf ++ ")\n (inertia 3FF 0 0 0 3FF 0 0 0 3FF)\n (limit 3FF 3FF 3FF)\n (slew none)\n (weights 3FF 0 0 0 0 0)\n (tolerance 3EB 3EB)\n (momenta" ++ momenta ++ ")\n" ++ list

abbrev Reads : String → Fate → Type 0
Reads t f = (read_problem (bytes t)).fate ≡ f

-- the specification's text; no line 10; no line feed; a line after the end; a list in another order
examples :
    Reads (text "3FF 0 0 0" "" " (actuators))\n") going
    × Reads (text "3FF 0 0 0" "" "") (Err (refusal 21 10))
    × Reads (text "3FF 0 0 0" "" " (actuators))") (Err (refusal 21 10))
    × Reads (text "3FF 0 0 0" "" " (actuators))\n\n") (Err (refusal 21 11))
    × Reads (text "3FF 0 0 0" "" " (actuators\n  (thruster 0 0 0 0)\n  (wheel 0 0 0 0 0 none)))\n") (Err (refusal 21 12))
unfolding digit more hex_at real_at is_at past past_blanks word_at none_at row_from row_at floats without_limit limited words_at with_tail line_at item_at with_wheel with_thruster with_pyramid with_item end_at close_at next_line first_line list_at_value with_row lineNext lines_from head_at_value with_list next_list judge_count problem_of read_of read_in iter no_actuators
examples = (refl, refl, refl, refl, refl)

-- taken: blanks between words, small digits, zeros up to sixteen digits
taken :
    Reads (text "  3ff 0  00 0000000000000000" "" " (actuators\n  (thruster   0 0 0 3Ff00))\n") (Err (refusal 21 11))
    × Reads (text "  3ff 0  00 0000000000000000" "  a   0" " (actuators\n  (wheel 0 0 0  0 0   none)\n  (wheel  0 0 0 0 0 1000000000000000)))\n") going
unfolding digit more hex_at real_at is_at past past_blanks word_at none_at row_from row_at floats without_limit limited words_at with_tail line_at item_at with_wheel with_thruster with_pyramid with_item end_at close_at next_line first_line list_at_value with_row lineNext lines_from head_at_value with_list next_list judge_count problem_of read_of read_in iter no_actuators
taken = (refl, refl)

-- not taken: a blank before `)`, at the end of a line, after `(`, in the indentation, in `(momenta)`; seventeen digits; a tabulator; a capital word
wrong :
    Reads (text "3FF 0 0 0 " "" " (actuators))\n") (Err (refusal 21 3))
    × Reads (text "3FF 0 0 0) " "" " (actuators))\n") (Err (refusal 21 3))
    × Reads (text "3FF 0 0 0" "" " ( actuators))\n") (Err (refusal 21 10))
    × Reads (text "3FF 0 0 0" "" "  (actuators))\n") (Err (refusal 21 10))
    × Reads (text "3FF 0 0 0" " " " (actuators))\n") (Err (refusal 21 9))
    × Reads (text "3FF 0 0 00000000000000000" "" " (actuators))\n") (Err (refusal 21 3))
    × Reads (text "3FF\t0 0 0" "" " (actuators))\n") (Err (refusal 21 3))
    × Reads (text "3FF 0 0 0" "" " (actuators\n  (wheel 0 0 0 0 0 None)))\n") (Err (refusal 21 11))
unfolding digit more hex_at real_at is_at past past_blanks word_at none_at row_from row_at floats without_limit limited words_at with_tail line_at item_at with_wheel with_thruster with_pyramid with_item end_at close_at next_line first_line list_at_value with_row lineNext lines_from head_at_value with_list next_list judge_count problem_of read_of read_in iter no_actuators
wrong = (refl, refl, refl, refl, refl, refl, refl, refl)

-- one momentum a wheel; one too few; one too many; a wrong float, and a wrong line after a wrong count, come first
abbrev wheel : String
wheel = " (actuators\n  (wheel 0 0 0 0 0 none)))\n"

momenta :
    Reads (text "3FF 0 0 0" " 3FF" wheel) going
    × Reads (text "3FF 0 0 0" "" wheel) (Err (refusal 21 9))
    × Reads (text "3FF 0 0 0" " 3FF 3FF" wheel) (Err (refusal 21 9))
    × Reads (text "3FF 0 0 0" " 3fg" wheel) (Err (refusal 21 9))
    × Reads (text "3FF 0 0 0" "" " (actuators\n  (wheel 0 0 0 0 none)))\n") (Err (refusal 21 11))
unfolding digit more hex_at real_at is_at past past_blanks word_at none_at row_from row_at floats without_limit limited words_at with_tail line_at item_at with_wheel with_thruster with_pyramid with_item end_at close_at next_line first_line list_at_value with_row lineNext lines_from head_at_value with_list next_list judge_count problem_of read_of read_in iter no_actuators
momenta = (refl, refl, refl, refl, refl)

abbrev eight_wheels : String
eight_wheels = "  (wheel 0 0 0 0 0 none)\n  (wheel 0 0 0 0 0 none)\n  (wheel 0 0 0 0 0 none)\n  (wheel 0 0 0 0 0 none)\n  (wheel 0 0 0 0 0 none)\n  (wheel 0 0 0 0 0 none)\n  (wheel 0 0 0 0 0 none)\n  (wheel 0 0 0 0 0 none)\n"

-- a ninth wheel is read and counted, so that the planner refuses the list; where its line is wrong, that comes first
ninth :
    ((read_problem (bytes (text "3FF 0 0 0" " 0 0 0 0 0 0 0 0 0" (" (actuators\n" ++ eight_wheels ++ "  (wheel 0 0 0 0 0 none)))\n")))).problem.actuators.wheel_count ≡ 9)
    × Reads (text "3FF 0 0 0" " 0 0 0 0 0 0 0 0 0" (" (actuators\n" ++ eight_wheels ++ "  (wheel 0 0 0 0 none)))\n")) (Err (refusal 21 19))
unfolding digit more hex_at real_at is_at past past_blanks word_at none_at row_from row_at floats without_limit limited words_at with_tail line_at item_at with_wheel with_thruster with_pyramid with_item end_at close_at next_line first_line list_at_value with_row lineNext lines_from head_at_value with_list next_list judge_count problem_of read_of read_in iter no_actuators
ninth = (refl, refl)
