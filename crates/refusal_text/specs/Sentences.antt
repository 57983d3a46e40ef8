-- What each refusal means, in words: a table of sentences, and which of them is told. Definitions only.
use Rattle.std.specs.Prelude.{ℕ, ◌+◌, ◌-◌, ◌*◌, Bool, false, cond, ◌&&◌, ◌||◌, List, [], ◌∷◌, ◌++◌, eqb, leb, length, drop, get_or, Ok, Err}
use Rattle.common.specs.Iter.{iter}
use Rattle.text.specs.Bytes.{bytes}
use Rattle.text_writer.specs.Puts.{Puts}
use Rattle.text_writer.specs.Texts.{digits}
use Rattle.common.specs.Refusals.{Fate, refusal}

-- A line for each sentence. Before it stand four numbers of two digits: the refusal's; when it was met (00 whenever, 01 before any run, 02 in a run or after it, 03 in a dense sample); the
-- first place that the sentence is for; and what is taken from the place to be told where the sentence has `#`. Where several lines are for a refusal, the last of them is told.
unfoldable pub table : List ℕ
table =
    bytes "00 00 00 00 No refusal has this number.\n"
    ++ bytes "01 00 00 00 There are more than 8 wheels: leave some out.\n"
    ++ bytes "01 00 01 00 There are more than 12 thrusters: leave some out.\n"
    ++ bytes "02 00 00 00 Wheel #: its torque, its momentum and its power must be finite and above 0.\n"
    ++ bytes "02 00 08 08 Thruster #: its torque must be finite and above 0.\n"
    ++ bytes "02 00 20 00 The pyramid: its skew must lie between 0 and 1.6, its momentum, rate and eps must be finite and above 0.\n"
    ++ bytes "03 00 00 00 Wheel #: its axis must be finite and must not be 0.\n"
    ++ bytes "03 00 08 08 Thruster #: its axis must be finite and must not be 0.\n"
    ++ bytes "03 00 20 00 An axis must be finite and must not be 0.\n"
    ++ bytes "04 00 00 00 A torque or slew limit must be finite and above 0, a weight finite and not below 0, a tolerance between 0 and 1.\n"
    ++ bytes "05 00 00 00 The start attitude q0 is no unit quaternion within the norm tolerance: normalize it.\n"
    ++ bytes "05 00 01 00 The end attitude qf is no unit quaternion within the norm tolerance: normalize it.\n"
    ++ bytes "05 00 02 00 An attitude in a forward run is no unit quaternion within the norm tolerance: widen it.\n"
    ++ bytes "05 03 00 00 Sample #: its attitude is no unit quaternion within the norm tolerance: widen it, or look at the nodes.\n"
    ++ bytes "06 00 00 00 The inertia must be symmetric and positive definite: look at its nine numbers.\n"
    ++ bytes "06 00 01 00 The first three axes, or the pyramid's gyros, do not span the three directions: turn an axis, or change the skew.\n"
    ++ bytes "07 00 00 00 The two attitudes do not differ: there is nothing to slew.\n"
    ++ bytes "07 00 01 00 The slew is half a turn, whose axis the search does not choose: plan the slew about one axis (eigenaxis).\n"
    ++ bytes "07 00 02 00 The torque limits or the slew limit are too small or too large for a profile: look at their units.\n"
    ++ bytes "08 00 00 00 These actuators are not served: take none, three or more wheels, three or more thrusters, or one pyramid.\n"
    ++ bytes "09 00 00 00 The workspace is too short for these controls: the programs lend 8,000 numbers, for 4 controls a row or 3 with a pointing weight. Declare fewer, or call the library and lend more.\n"
    ++ bytes "10 00 00 00 The seed must have 17 nodes and a finite duration above 0: look at the seed, or at torque limits near 0.\n"
    ++ bytes "11 00 00 00 Step # of a run turns through an angle out of range: plan the slew about one axis (eigenaxis), or look at the units of the limits.\n"
    ++ bytes "11 01 00 00 The slew is half a turn but for rounding, and the tie tolerance lets it pass: plan the slew about one axis (eigenaxis).\n"
    ++ bytes "11 03 00 00 Sample # turns through an angle out of range: look at the nodes and the duration.\n"
    ++ bytes "12 00 00 00 Step # of a run meets a singular pyramid: plan the slew about one axis (eigenaxis).\n"
    ++ bytes "13 00 00 00 Step # of a run takes a wheel over its power: plan the slew about one axis (eigenaxis).\n"
    ++ bytes "14 00 00 00 The search did not reach qf: plan the slew about one axis (eigenaxis), or try all weights at 0.\n"
    ++ bytes "15 00 00 00 The search did not come to rest at its end: plan the slew about one axis (eigenaxis), or try all weights at 0.\n"
    ++ bytes "16 00 00 00 The path that was found has too large a defect, which is rounding alone: look at the units of inertia and torques.\n"
    ++ bytes "17 00 00 00 Node # of the path that was found is over a torque limit: plan the slew about one axis (eigenaxis).\n"
    ++ bytes "18 00 00 00 Node # of the path that was found is over the slew limit: plan the slew about one axis (eigenaxis), or leave that limit out.\n"
    ++ bytes "19 00 00 00 Node # of the path that was found is over a wheel's momentum: begin with slower wheels, or raise their momentum limits.\n"
    ++ bytes "20 00 00 00 There would be more than 100,000 samples: ask for fewer, or plan a shorter slew.\n"
    ++ bytes "20 00 01 00 There is no sample of this index: it must be below the count.\n"
    ++ bytes "21 00 00 00 The text is too long: a problem's and a table's have at most 4,096 bytes, a mosaic's 16,384: shorten it.\n"
    ++ bytes "21 00 01 00 Line # of the text is wrong or missing: compare it with its form.\n"
    ++ bytes "22 00 00 00 Wheel #: its start momentum must be finite and at most its limit in size, one for each wheel.\n"
    ++ bytes "23 00 00 00 A mosaic has 2 to 64 attitudes: give more of them, or cut it at a tile and plan both parts.\n"
    ++ bytes "24 00 00 00 Sample #: a part does not fit the drive board's 32 bits: rates, torques and momenta must be below 2,048 in size.\n"
    ++ bytes "25 00 00 00 There is no tile, or there are more than 10, or a time is outside 1 to 10,000,000 milliseconds.\n"
    ++ bytes "26 00 00 00 Wheel #: the momenta on record are not those that the preview began from, or it was refused: preview again.\n"
    ++ bytes "27 00 00 00 Outside the room: the angle goes from -64 to 64, the rate from -8 to 8; of a reply the choice from -2 to 2, the turns left from 1 to 64.\n"
    ++ bytes "28 00 00 00 The column has more than 4,096 numbers, the bytes are not 8 for each, or the output is too short.\n"

-- ---- which line

-- the number of the two digits at k
abbrev pub number_at : List ℕ → ℕ → ℕ
number_at t k = (get_or t k 0 - 48) * 10 + (get_or t (k + 1) 0 - 48)

unfoldable pub begins : List ℕ → ℕ → Bool
begins t k = eqb k 0 || eqb (get_or t (k - 1) 0) 10

-- when a refusal was met, by the runs begun and whether it is a dense sample's
unfoldable pub met : ℕ → Bool → ℕ
met runs sampled = cond sampled 3 (cond (eqb runs 0) 1 2)

-- the line at k is for refusal n at a place
unfoldable pub serves : List ℕ → ℕ → ℕ → ℕ → ℕ → Bool
serves t n place when k = eqb (number_at t k) n && (leb (number_at t (k + 6)) place && (eqb (number_at t (k + 3)) 0 || eqb (number_at t (k + 3)) when))

-- the line at k, or the one that was found before it
unfoldable pub later : List ℕ → ℕ → ℕ → ℕ → ℕ → ℕ → ℕ
later t n place when k found = cond (begins t k && serves t n place when k) k found

-- where the last line for it begins; the first line is for whatever has no other
unfoldable pub line_for : List ℕ → ℕ → ℕ → ℕ → ℕ
line_for t n place when = iter (later t n place when) 0 (length t)

-- ---- its sentence

abbrev pub marked : ℕ → ℕ → List ℕ
marked count b = cond (eqb b 35) (digits 20 count) (b ∷ [])

-- up to the line feed, which is told too; a count in the place of `#`
abbrev pub told : ℕ → List ℕ → List ℕ
told count [] = []
told count (b ∷ t) = cond (eqb b 10) (10 ∷ []) (marked count b ++ told count t)

unfoldable pub sentence : List ℕ → ℕ → ℕ → List ℕ
sentence t place k = told (place - number_at t (k + 9)) (drop (k + 12) t)

-- the sentence of a table for refusal n at a place, met at a stage
abbrev pub sentence_for : List ℕ → ℕ → ℕ → ℕ → List ℕ
sentence_for t n place when = sentence t place (line_for t n place when)

-- a text is put at the start of a buffer
abbrev pub Tells : List ℕ → List ℕ → List ℕ → ℕ → Type 0
Tells before t after next = Puts before 0 t (length t) after next

-- ---- a refusal

-- what refusal n at a place means: what was wrong, with which item, and what to change
unfoldable pub explain : ℕ → ℕ → ℕ → Bool → List ℕ
explain n place runs sampled = sentence_for table n place (met runs sampled)

-- what a plan's refusal means; of a path nothing
abbrev pub explain_plan : Fate → ℕ → List ℕ
explain_plan (Err why) runs = explain why.number why.place runs false
explain_plan (Ok _) runs = []
