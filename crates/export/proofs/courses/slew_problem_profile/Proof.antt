-- `export::courses::slew_problem_profile` meets its contract: it goes by the fate of the checks, as the definition does. Assumes nothing.
use mathlib.Core.Path.{refl}
use borrow.Author.Rules.{rules}
use Rattle.export.proofs.courses.slew_problem_profile.Statement.{statement}
use Rattle.export.proofs.courses.slew_problem_profile.Tie as tie

returns : tie.Need-returns-in-Err
returns c =
    rw (← c.problem_of.ensures, ← c.check-checked.ensures, c.in-Err.is)
    (record { number_is = refl; place_is = refl; value_is = refl })

returns_2 : tie.Need-returns-in-Ok
returns_2 c =
    rw (← c.problem_of.ensures, ← c.check-checked.ensures, c.in-Ok.is) c.put_checked.ensures

pub slew_problem_profile_spec : {M : Type 1} → statement M
slew_problem_profile_spec =
    tie.close
    (tie.spec
    (λ c κs. search rules) (λ c κs. search rules) (λ c. search rules) (λ c. search rules) (λ c κs. search rules) returns
    returns_2)
