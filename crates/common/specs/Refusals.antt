-- A refusal, and how a stage ended. Definitions only.
use Rattle.std.specs.Prelude.{ℕ, Result, Ok, Err}
use Rattle.common.specs.declared.Refusal.{Refusal}

-- how a stage ended: it goes on, or it is refused
abbrev pub Fate : Type 0
Fate = Result (Unit {0}) Refusal

abbrev pub going : Fate
going = Ok tt

-- the refusal with this number, at this place
abbrev pub refusal : ℕ → ℕ → Refusal
refusal number place = record { number = number; place = place }

-- how a stage that makes a value ended
abbrev pub fate_of : {A : Type 0} → Result A Refusal → Fate
fate_of (Ok _) = going
fate_of (Err why) = Err why
