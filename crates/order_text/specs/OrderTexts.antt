-- What is printed of a table's text, byte for byte, and what is left of the lent buffer. Definitions only.
use Rattle.std.specs.Prelude.{ℕ, ◌*◌, ◌≤◌, ◌≡◌, Bool, true, false, cond, List, [], ◌∷◌, ◌++◌, leb, ltb, length, get_or, take, drop, Ok, Err}
use Rattle.text.specs.Bytes.{bytes}
use Rattle.text_writer.specs.Puts.{Puts}
use Rattle.text_writer.specs.Texts as Texts
use Rattle.text_writer.specs.Texts.{times, digits, counted}
use Rattle.tile_order.specs.declared.Found.{Found}
use Rattle.tile_order.specs.declared.Ordered.{Ordered}
use Rattle.tile_order.specs.Answers as Answers
use Rattle.order_text.specs.declared.reading.ReadTiles.{ReadTiles}
use Rattle.order_text.specs.declared.Told.{Told}
use Rattle.order_text.specs.TileTexts.{read_tiles}
use Rattle.common.specs.Refusals.{Fate, refusal}

-- ---- forms: each begins with the line feed that ends the line before it

abbrev pub tile : ℕ → List ℕ
tile x = (32 ∷ []) ++ digits 20 x

unfoldable pub tiles : List ℕ → ℕ → List ℕ
tiles o n = times (λ k. tile (get_or o k 0)) n

abbrev pub order_form : List ℕ → ℕ → List ℕ
order_form o n = bytes "(ordered\n (order" ++ tiles o n

abbrev pub used_up : Bool → List ℕ
used_up true = bytes "\n (used-up yes)"
used_up false = bytes "\n (used-up no)"

unfoldable pub ordered_text : ℕ → Found → List ℕ
ordered_text n f =
    order_form f.order n
    ++ counted (bytes ")\n (cost ") f.cost
    ++ counted (bytes "\n (placed ") f.placed
    ++ used_up f.exhausted
    ++ counted (bytes "\n (floor ") f.floor
    ++ bytes ")\n"

-- nothing is found for more than 10 tiles, and nothing is printed of it
unfoldable pub ordered : ℕ → Found → List ℕ
ordered n f = cond (leb n 10) (ordered_text n f) []

-- ---- the answer to a text: 21 comes before 25, and both before any placement

-- the times of n tiles; more than 10 are refused, whatever the times
abbrev pub cells : ReadTiles → List ℕ
cells r = take (cond (ltb 10 r.tiles) 0 (r.tiles * r.tiles)) r.times

-- zeros stand beside a refusal
abbrev pub unread : ℕ → ℕ → Ordered
unread number line = record { fate = Err (refusal number line); found = (Answers.refusal).found }

abbrev pub answer_by : Fate → ReadTiles → Ordered
answer_by (Err why) r = unread why.number why.place
answer_by (Ok _) r = Answers.answer r.tiles (cells r) r.budget

unfoldable pub answer : ReadTiles → Ordered
answer r = answer_by r.fate r

abbrev pub printed_by : Fate → ℕ → Found → List ℕ
printed_by (Err why) n f = Texts.refused why.number why.place 0
printed_by (Ok _) n f = ordered n f

unfoldable pub printed : ℕ → Ordered → List ℕ
printed n a = printed_by a.fate n a.found

-- ---- what is told of it, and the lent buffer at exit. A buffer of less than 512 bytes gets nothing.

abbrev pub no_room : Told
no_room = record { fate = Err (refusal 99 0); bytes = 0 }

abbrev pub wholly : ℕ → Ordered → Told
wholly n a = record { fate = a.fate; bytes = length (printed n a) }

unfoldable pub told : List ℕ → List ℕ → Told
told text out = cond (ltb (length out) 512) no_room (wholly (read_tiles text).tiles (answer (read_tiles text)))

-- the bytes, then what stood after them
unfoldable pub written : List ℕ → List ℕ → List ℕ
written text out =
    cond (ltb (length out) 512) out
    (printed (read_tiles text).tiles (answer (read_tiles text)) ++ drop (length (printed (read_tiles text).tiles (answer (read_tiles text)))) out)

-- ---- contracts

-- the answer a is printed into a buffer as far as it reaches
pub record Prints (n : ℕ) (a : Ordered) (out : List ℕ) (r : Told) (out' : List ℕ) : Type 0 where
  pub is : r ≡ wholly n a
  pub puts : Puts out 0 (printed n a) 400 out' r.bytes

-- the answer to a text is told; the bytes written lie within the buffer
pub record Tells (text out : List ℕ) (r : Told) (out' : List ℕ) : Type 0 where
  pub is : r ≡ told text out
  pub bytes : out' ≡ written text out
  pub within : r.bytes ≤ length out'
