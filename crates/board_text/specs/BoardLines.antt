-- What is printed of a text's samples for the drive board, one step a sample from index 0 on: a line `(board`, then a line for each sample with its 13 whole numbers in
-- decimal, the last of which closes both brackets. A refusal is printed in the place of its sample, and nothing after it. Definitions only.
use Rattle.std.specs.Prelude.{ℕ, Bool, cond, List, ◌++◌, eqb, ℤ, pos, get_or, Float}
use Rattle.common.specs.Answer.{Answer}
use Rattle.drive_numbers.specs.Drive.{drive}
use Rattle.text.specs.Bytes.{bytes}
use Rattle.text_writer.specs.Texts.{times, whole}
use Rattle.sample_text.specs.SampleTexts.{answer_by, sample_course}
use Rattle.sample_text.specs.SampleLines.{is_last, is_planned, closing, Steps}
use Rattle.sample_text.specs.declared.Course.{Course}
use Rattle.sample_text.specs.declared.lines.Line.{Line}
use Rattle.board_text.specs.declared.Board.{Board}

-- ---- sample number index of a text's plan, as the drive board takes it

-- a refused plan has its own runs, a refused sample 0
unfoldable pub board_course : Course → ℕ → Float → ℕ → Board
board_course c requested alpha index =
    let d = sample_course c requested alpha index in record { runs = d.runs; driven = drive d.sampled index }

-- the answer of a sample: its numbers, or a refusal
unfoldable pub answer : Board → Answer (List ℤ)
answer b = answer_by b.runs b.driven

-- ---- a sample's line

-- a blank and a number
abbrev pub number : ℤ → List ℕ
number n = bytes " " ++ whole n

abbrev pub number_at : List ℤ → ℕ → List ℕ
number_at v k = number (get_or v k (pos 0))

unfoldable pub row : List ℤ → List ℕ
row v = times (number_at v) 13

-- the first one has `(board` before it, on a line of its own
unfoldable pub opening : ℕ → List ℕ
opening index = cond (eqb index 0) (bytes "(board\n (sample") (bytes " (sample")

unfoldable pub board_line : ℕ → Bool → List ℤ → List ℕ
board_line index last v = opening index ++ row v ++ closing last

-- ---- the step of sample number index
abbrev pub StepsAt : Course → ℕ → Float → ℕ → List ℕ → List ℕ → Line → List ℕ → List ℕ → Type 0
StepsAt c requested alpha index =
    let last = is_last c.duration requested alpha index in Steps (board_line index last) 320 (is_planned c.fate) (answer (board_course c requested alpha index)) last
