-- `held_counts::limit_in` meets its contract: each way out is a case of the definition, told by the tests on the way. Assumes nothing.
use Prim.Native.Nat.{◌<◌}
use mathlib.Core.Path.{◌≡◌, sym, ◌∙◌, subst}
use mathlib.Core.Bool.{Bool}
use Rattle.control_limits.specs.Limits as Limits
use Rattle.control_rows.specs.Parts.{bare}
use Rattle.controls.specs.Controls.{rig_of}
use Rattle.control_rows.specs.declared.Rig.{Rig}
use Rattle.actuators.specs.declared.ActuatorMap.{ActuatorMap}
use Rattle.held_counts.specs.CountLaws.{held_bare, held_tables}
use native.Mathlib.Omega.{arith}
use borrow.Author.Rules.{rules}
use Rattle.held_counts.proofs.limit_in.Statement.{statement}
use Rattle.held_counts.proofs.limit_in.Tie as tie

-- what the code asks is whether the map has no actuators
asked : (m : ActuatorMap) {r : Rig} {b t : Bool} → r ≡ rig_of m → b ≡ bare r → b ≡ t → bare (rig_of m) ≡ t
asked m {r} {b} {t} e f g = subst (λ (x : Rig). bare x ≡ t) e (sym f ∙ g)

below : (c : tie.Then-is_bare) → c.args.i < 3
below c = held_bare _ _ c.requires (asked c.args.map c.rig_of.ensures c.is_bare.ensures c.if-is_bare.true)

returns : tie.Need-returns-then-is_bare
unfolding Limits.limit_of
returns c = rw (asked c.args.map c.rig_of.ensures c.is_bare.ensures c.if-is_bare.true)

part-limit-requires : tie.Need-part_limit-requires
part-limit-requires c κs = held_tables _ _ c.requires

returns_2 : tie.Need-returns
unfolding Limits.limit_of
returns_2 c =
    rw (asked c.args.map c.rig_of.ensures c.is_bare.ensures c.if-is_bare.false, c.part_limit.ensures)

pub limit_in_spec : {M : Type 1} → statement M
limit_in_spec =
    tie.close
    (tie.spec
    (λ c κs. search rules) (λ c κs. search rules) (λ c. omega (arith, below c)) below returns part-limit-requires returns_2)
