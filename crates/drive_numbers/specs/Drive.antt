-- A dense sample as the drive board takes it: 13 numbers, or a refusal. Definitions only.
use Rattle.std.specs.Prelude.{ℕ, Bool, true, false, cond, ◌&&◌, List, [], ◌∷◌, replicate, ℤ, pos, Float, Option, Some, None, Result, Ok, Err}
use Rattle.common.specs.Answer.{Answer, Given, Refused}
use Rattle.common.specs.Lists.{at}
use Rattle.samples.specs.Samples.{Sampled, sample}
use Rattle.samples.specs.declared.PathSample.{PathSample}
use Rattle.drive_numbers.specs.declared.Unit.{Unit}
use Rattle.drive_numbers.specs.Numbers.{part}
use Rattle.common.specs.Refusals.{refusal}
use Rattle.common.specs.declared.Refusal.{Refusal}

-- whether there is a number, and the number, or 0
abbrev pub inside : Option ℤ → Bool
inside (Some n) = true
inside None = false

abbrev pub number : Option ℤ → ℤ
number (Some n) = n
number None = pos 0

-- whether all are inside, and their numbers
abbrev pub all : List (Option ℤ) → Bool
all [] = true
all (w ∷ ws) = inside w && all ws

abbrev pub numbers : List (Option ℤ) → List ℤ
numbers [] = []
numbers (w ∷ ws) = number w ∷ numbers ws

abbrev pub wholes : List (Float × Unit) → List (Option ℤ)
wholes [] = []
wholes (m ∷ ms) = part m.0 m.1 ∷ wholes ms

-- a sample's parts in a printed node's order, the time left out: attitude in units of 2 ^ -30, rate, torque and body momentum in units of 2 ^ -20
abbrev pub parts : PathSample → List (Float × Unit)
parts s =
    (s.q.w, Unit.Fine) ∷ (s.q.x, Unit.Fine) ∷ (s.q.y, Unit.Fine) ∷ (s.q.z, Unit.Fine)
    ∷ (at s.w 0, Unit.Coarse) ∷ (at s.w 1, Unit.Coarse) ∷ (at s.w 2, Unit.Coarse)
    ∷ (at s.tau 0, Unit.Coarse) ∷ (at s.tau 1, Unit.Coarse) ∷ (at s.tau 2, Unit.Coarse)
    ∷ (at s.h 0, Unit.Coarse) ∷ (at s.h 1, Unit.Coarse) ∷ (at s.h 2, Unit.Coarse)
    ∷ []

-- what a sample gives: its 13 numbers, or a refusal
abbrev pub Driven : Type 0
Driven = Result (List ℤ) Refusal

abbrev pub refused : ℕ → ℕ → Driven
refused n place = Err (refusal n place)

abbrev pub given : List ℤ → Driven
given ns = Ok ns

-- a sample's 13 numbers, or 24 at the sample
unfoldable pub numbered : PathSample → ℕ → Driven
numbered s index = cond (all (wholes (parts s))) (given (numbers (wholes (parts s)))) (refused 24 index)

-- the sample that was asked for under this number: its own refusal, 20, 5 or 11, or 24, or its numbers
abbrev pub drive : Sampled → ℕ → Driven
drive (Err why) index = Err why
drive (Ok s) index = numbered s index

-- sample number index of a path
unfoldable pub drive_sample : List (List Float) → Float → Float → List (List Float) → ℕ → Float → ℕ → Driven
drive_sample j tol duration nodes requested alpha index = drive (sample j tol duration nodes requested alpha index) index

-- in the specification's numbers, before any run
abbrev pub of_driven : Driven → Answer (List ℤ)
of_driven (Ok ns) = Given ns
of_driven (Err why) = Refused why.number why.place 0

-- its numbers, or zeros beside a refusal
abbrev pub numbers_or_zeros : Driven → List ℤ
numbers_or_zeros (Ok ns) = ns
numbers_or_zeros (Err why) = replicate 13 (pos 0)

-- a part's number, or 24 at place 0
abbrev pub of_whole : Option ℤ → Answer ℤ
of_whole (Some n) = Given n
of_whole None = Refused 24 0 0
