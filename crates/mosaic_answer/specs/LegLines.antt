-- What stands around the legs of a mosaic, byte for byte. Definitions only.
use Rattle.std.specs.Prelude.{ℕ, List, ◌++◌, Float}
use Rattle.text.specs.Bytes.{bytes}
use Rattle.text_writer.specs.Texts as Texts

-- before leg number k, from 0
unfoldable pub heading : ℕ → List ℕ
heading k = Texts.counted (bytes "(leg ") k ++ bytes "\n"

-- after the legs: how many were answered, the sum of their durations, the sum of their runs
unfoldable pub total : ℕ → Float → ℕ → List ℕ
total legs duration runs = bytes "(total" ++ Texts.counted (bytes "\n (legs ") legs ++ Texts.duration duration ++ Texts.counted (bytes "\n (runs ") runs ++ bytes ")\n"
