-- `control_limits::project_parts` meets its contract: the three parts, held one after the other, are the row held (`parts_held`). Assumes nothing.
use Prim.Native.Nat.{◌+◌, ◌-◌}
use lib.ListN.{length}
use Rattle.actuators.specs.MapLaws.{gimbals_most}
use Rattle.control_limits.specs.FewerLaws.{fewer_most}
use Rattle.control_limits.proofs.PartLimits.{parts_held}
use native.Mathlib.Omega.{arith}
use borrow.Author.Rules.{rules}
use Rattle.control_limits.proofs.project_parts.Statement.{statement}
use Rattle.control_limits.proofs.project_parts.Tie as tie

hold-part-requires-3 : tie.Need-hold_part-requires-3
hold-part-requires-3 c κs =
    let f = c.fewer-n.ensures in
    let m = fewer_most c.gimbals.result (length c.args.u.now - (c.args.r.wheel_count + c.args.r.thruster_count)) in
    let g = gimbals_most c.args.r.cmgs in
    (omega (arith, c.gimbals.ensures), omega arith)

returns : tie.Need-returns
returns c =
    rw (c.hold_part-3.ensures, c.hold_part-2.ensures, c.hold_part.ensures, c.fewer-n.ensures, c.gimbals.ensures, c.gimbal_rate-rates.ensures)
    (parts_held c.args.r c.args.wheels.now c.args.thrusters.now c.args.u.now (omega arith))

pub project_parts_spec : {M : Type 1} → statement M
project_parts_spec =
    tie.close
    (tie.spec
    (λ c. search rules) (λ c κs. search rules) (λ c κs. search rules) (λ c. search rules) (λ c κs. search rules) (λ c. search rules)
    (λ c. search rules) (λ c. search rules) (λ c κs. search rules) (λ c. search rules) (λ c. search rules) (λ c. search rules) (λ c. search rules)
    (λ c κs. search rules) (λ c. search rules) (λ c. search rules) (λ c. search rules) (λ c. search rules) (λ c. search rules) hold-part-requires-3
    (λ c. search rules) returns)
