-- What the code reads from how an operation ended is what its answer says, in the specification's numbers. Assumes nothing.
use Rattle.std.specs.Prelude.{ℕ, ◌≡◌, refl, Ok, Err}
use Rattle.std.proofs.Common.{◌∙◌}
use Rattle.common.specs.Answer.{Answer}
use Rattle.geom.specs.Answers.{of_fate}
use Rattle.profile.specs.declared.Profiled.{Profiled}
use Rattle.export_leaves.specs.Packed.{numbers}
use Rattle.export_leaves.specs.Outcomes.{number, place, runs_or, map, of_profiled, fate_number, fate_place, Answered, AnsweredAt, Placed, Counted}
use Rattle.common.specs.Refusals.{Fate}

-- an answer put into another form after it is made, or before
pub map_fate : {A B : Type 0} (g : A → B) (a : A) (f : Fate) → map g (of_fate a f) ≡ of_fate (g a) f
map_fate g a (Ok _) = refl
map_fate g a (Err why) = refl

-- an operation that ended so after these runs answers a
pub record Tells {A : Type 0} (a : Answer A) (f : Fate) (begun : ℕ) : Type 0 where
  pub number : fate_number f ≡ number a
  pub place : fate_place f ≡ place a
  pub runs : begun ≡ runs_or a begun

-- a value beside its fate, before any run
pub of_fate_law : {A : Type 0} (a : A) (f : Fate) → Tells (of_fate a f) f 0
of_fate_law a (Ok _) = record { number = refl; place = refl; runs = refl }
of_fate_law a (Err why) = record { number = refl; place = refl; runs = refl }

-- a profile as its numbers
pub of_profiled_law : (p : Profiled) → Tells (of_profiled p) p.fate 0
of_profiled_law p = rw (map_fate numbers p.profile p.fate) (of_fate_law (numbers p.profile) p.fate)

-- what a call reads from the fate: the place k, with the number n, with the runs, with what is lent for the answer
module _ {A : Type 0} {a : Answer A} {f : Fate} {begun n k : ℕ} (t : Tells a f begun) (q : k ≡ fate_place f) where
  pub placed : n ≡ fate_number f → Placed a n k
  placed p = record { number_is = p ∙ t.number; place_is = q ∙ t.place }

  pub counted : n ≡ fate_number f → Counted a begun n k begun
  counted p = record { number_is = p ∙ t.number; place_is = q ∙ t.place; runs_are = t.runs }

  pub answered_at : {old new : A} → Answered a n old new → AnsweredAt a n k old new
  answered_at h = record { number_is = h.number_is; place_is = q ∙ t.place; value_is = h.value_is }
