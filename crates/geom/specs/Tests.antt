-- What a branch tells where it tests the negated answer of a call. Assumes nothing.
use Rattle.std.specs.Prelude.{◌≡◌, Bool, true, false, not}
use Rattle.std.proofs.lemmas.Bool.{not-true, not-false}

-- the answer a is t, and the branch was taken for its denial
pub unmet : {a t : Bool} → a ≡ t → not a ≡ true → t ≡ false
unmet {a} {t} e h = rw e at (not-true a h)

-- the answer a is t, and the branch was not taken
pub met : {a t : Bool} → a ≡ t → not a ≡ false → t ≡ true
met {a} {t} e h = rw e at (not-false a h)
