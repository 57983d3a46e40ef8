-- What is printed of the room's game, byte for byte. Definitions only.
use Rattle.std.specs.Prelude.{ℕ, ◌+◌, ◌*◌, false, List, [], ◌++◌, Option, None, Some, Result, Ok, Err, ℤ, get_or}
use Rattle.std.proofs.Math.IntN.{sub_ℕ}
use Rattle.common.specs.Answer.{Answer, Given, Refused}
use Rattle.text.specs.Bytes.{bytes}
use Rattle.text_writer.specs.Puts.{Puts}
use Rattle.text_writer.specs.Texts.{times, digits, whole, counted, refused}
use Rattle.refusal_text.specs.Sentences.{explain}
use Rattle.reach_avoid.specs.Answers.{of_start, of_reply}
use Rattle.reach_avoid.specs.Room.{outcome, reply}
use Rattle.reach_avoid.specs.declared.StartOutcome.{StartOutcome}
use Rattle.reach_avoid.specs.declared.StartOutcome.TheVariants.{Home, Forced, HeldOff}
use Rattle.reach_avoid.specs.declared.OutOfRange.{OutOfRange}
use Rattle.region_text.specs.declared.Printed.{Printed}

-- ---- a start and a reply

-- forced home in n turns, by u first
unfoldable pub forced : ℕ → ℤ → List ℕ
forced n u = counted (bytes "(start\n (turns ") n ++ bytes "\n (choice " ++ whole u ++ bytes "))\n"

unfoldable pub adds : ℤ → List ℕ
adds d = bytes "(reply\n (adds " ++ whole d ++ bytes "))\n"

abbrev pub start_form : Result StartOutcome OutOfRange → List ℕ
start_form (Ok Home) = bytes "(start\n (home))\n"
start_form (Ok (Forced n u)) = forced n u
start_form (Ok HeldOff) = bytes "(start\n (held-off))\n"
start_form (Err e) = []

abbrev pub reply_form : Result (Option ℤ) OutOfRange → List ℕ
reply_form (Ok (Some d)) = adds d
reply_form (Ok None) = bytes "(reply\n (none))\n"
reply_form (Err e) = []

-- an answer is printed in its form, or as a refusal with its numbers; a refusal's sentence goes to standard error
abbrev pub printed : {A : Type 0} → Answer A → List ℕ → List ℕ
printed (Given a) form = form
printed (Refused number place runs) form = refused number place runs

abbrev pub sentence : {A : Type 0} → Answer A → List ℕ
sentence (Given a) = []
sentence (Refused number place runs) = explain number place runs false

-- both texts are put into lent buffers as far as these reach
pub record Prints (t u out said : List ℕ) (r : Printed) (out' said' : List ℕ) : Type 0 where
  pub told : Puts out 0 t 100 out' r.bytes
  pub says : Puts said 0 u 212 said' r.said

-- what is told of the start at an angle and a rate, and of the draught's reply there
abbrev pub PrintsStart : ℤ → ℤ → List ℕ → List ℕ → Printed → List ℕ → List ℕ → Type 0
PrintsStart angle rate = let s = outcome (record { angle = angle; rate = rate }) in Prints (printed (of_start s) (start_form s)) (sentence (of_start s))

abbrev pub PrintsReply : ℤ → ℤ → ℕ → ℤ → List ℕ → List ℕ → Printed → List ℕ → List ℕ → Type 0
PrintsReply angle rate left choice =
    let d = reply (record { angle = angle; rate = rate }) left choice in Prints (printed (of_reply d) (reply_form d)) (sentence (of_reply d))

-- ---- the region

-- a blank and the turns of a start
unfoldable pub turns : ℕ → List ℕ
turns n = bytes " " ++ digits 3 n

-- the turns of angle x - 64 and rate y - 8
abbrev pub turns_at_value : List ℕ → ℕ → ℕ → List ℕ
turns_at_value t x y = turns (get_or t (x * 17 + y) 0)

unfoldable pub angle_line : List ℕ → ℕ → List ℕ
angle_line t x = bytes "\n (angle " ++ whole (sub_ℕ x 64) ++ times (turns_at_value t x) 17 ++ bytes ")"

unfoldable pub region_text : List ℕ → List ℕ
region_text t = bytes "(region" ++ times (angle_line t) 129 ++ bytes ")\n"
