-- What a call of the C interface answers and leaves in what is lent to it, of what the operation behind it answers. Definitions only.
use Rattle.std.specs.Prelude.{◌≡◌, Bool, List, ℕ, eqb, Float, Ok, Err}
use Rattle.common.specs.Answer.{Answer, Given, Refused}
use Rattle.geom.specs.declared.Quat.{Quat}
use Rattle.profile.specs.Answers as Answers
use Rattle.profile.specs.declared.Profiled.{Profiled}
use Rattle.export_leaves.specs.Packed.{four, two, numbers}
use Rattle.common.specs.Refusals.{Fate}

-- the number of a refusal, 0 where there is none
abbrev pub number : {A : Type 0} → Answer A → ℕ
number (Given a) = 0
number (Refused n k runs) = n

-- there is none
abbrev pub is_given : {A : Type 0} → Answer A → Bool
is_given a = eqb (number a) 0

-- the place of a refusal, 0 where there is none
abbrev pub place : {A : Type 0} → Answer A → ℕ
place (Given a) = 0
place (Refused n k runs) = k

-- the forward runs of a refusal; those of what was given are said
abbrev pub runs_or : {A : Type 0} → Answer A → ℕ → ℕ
runs_or (Given a) begun = begun
runs_or (Refused n k runs) begun = runs

-- what is given, or what stood there
abbrev pub value_or : {A : Type 0} → Answer A → A → A
value_or (Given a) old = a
value_or (Refused n k runs) old = old

-- the same answer with what is given in another form
abbrev pub map : {A B : Type 0} → (A → B) → Answer A → Answer B
map f (Given a) = Given (f a)
map f (Refused n k runs) = Refused n k runs

-- an attitude as its four numbers, two numbers as a list, a profile as its 22 numbers
abbrev pub of_quat : Answer Quat → Answer (List Float)
of_quat a = map four a

abbrev pub of_pair : Answer (Float × Float) → Answer (List Float)
of_pair a = map (λ (p : Float × Float). two p.0 p.1) a

abbrev pub of_profiled : Profiled → Answer (List Float)
of_profiled p = map numbers (Answers.of_profiled p)

-- ---- how a stage ended: its refusal's number and place, or 0
abbrev pub fate_number : Fate → ℕ
fate_number (Ok _) = 0
fate_number (Err why) = why.number

abbrev pub fate_place : Fate → ℕ
fate_place (Ok _) = 0
fate_place (Err why) = why.place

-- ---- what a call tells of the answer a

-- it answers n, and what was lent for the answer held `old` and holds `new`
pub record Answered {A : Type 0} (a : Answer A) (n : ℕ) (old new : A) : Type 0 where
  pub number_is : n ≡ number a
  pub value_is : new ≡ value_or a old

-- the same, and it puts the place k
pub record AnsweredAt {A : Type 0} (a : Answer A) (n k : ℕ) (old new : A) : Type 0 where
  pub number_is : n ≡ number a
  pub place_is : k ≡ place a
  pub value_is : new ≡ value_or a old

-- it answers n and puts the place k
pub record Placed {A : Type 0} (a : Answer A) (n k : ℕ) : Type 0 where
  pub number_is : n ≡ number a
  pub place_is : k ≡ place a

-- it answers n, puts the place k and the forward runs, those begun where there is no refusal
pub record Counted {A : Type 0} (a : Answer A) (begun n k runs : ℕ) : Type 0 where
  pub number_is : n ≡ number a
  pub place_is : k ≡ place a
  pub runs_are : runs ≡ runs_or a begun
