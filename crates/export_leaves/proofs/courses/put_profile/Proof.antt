-- `export_leaves::courses::put_profile` meets its contract: a profile's numbers may be taken before its refusal is looked at. Assumes nothing.
use Rattle.export_leaves.specs.OutcomeLaws.{map_fate}
use Rattle.export_leaves.specs.Packed.{numbers}
use borrow.Author.Rules.{rules}
use Rattle.export_leaves.proofs.courses.put_profile.Statement.{statement}
use Rattle.export_leaves.proofs.courses.put_profile.Tie as tie

returns : tie.Need-returns
returns c =
    let p = c.args.p in
    rw (map_fate numbers p.profile p.fate) (rw c.numbers.ensures at c.put_made.ensures)

pub put_profile_spec : {M : Type 1} → statement M
put_profile_spec = tie.close (tie.spec (λ c κs. search rules) (λ c κs. search rules) returns)
