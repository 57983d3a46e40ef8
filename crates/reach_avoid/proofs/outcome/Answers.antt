use Rattle.std.proofs.Common.{◌≡◌, ◌∙◌, ap, sym, to_z-of_z, Ok}
use Rattle.std.proofs.lemmas.Result.{err_from_is_err_and}
use Rattle.reach_avoid.specs.Game.{fewest}
use Rattle.reach_avoid.specs.Room.{State, room, telling, outcome}
use Rattle.reach_avoid.specs.RoomLaws.{outcome_out, outcome_in}
use Rattle.reach_avoid.specs.TableInner.{Start}
use Rattle.reach_avoid.proofs.PromisesKept.{tells}
use Rattle.reach_avoid.proofs.outcome.Goals.{After-tell}
use Rattle.reach_avoid.proofs.outcome.Goals as goal

pub returns-in_err-k-clause-value : goal.returns-in_err-k-clause-value
returns-in_err-k-clause-value c =
    let e : Start (record { angle = c.args.angle; rate = c.args.rate }) c.entry_of.result = rw (to_z-of_z c.ranges.angle, to_z-of_z c.ranges.rate) at c.entry_of.ensures in
    let p = err_from_is_err_and c.from_residual.result c.from_residual.ensures.1 in
    rw p.1 (outcome_out _ (rw c.in_err-k.was at e))

told : (c : After-tell) → Ok c.tell.result ≡ outcome (record { angle = c.args.angle; rate = c.args.rate })
told c =
    let st : State = record { angle = c.args.angle; rate = c.args.rate } in
    let e : Start st c.entry_of.result = rw (to_z-of_z c.ranges.angle, to_z-of_z c.ranges.rate) at c.entry_of.ensures in
    let p = rw c.in_ok-k.was at e in
    ap Ok (c.tell.ensures ∙ ap (λ x. telling (fewest room 255 64 x) x) (sym p.2)) ∙ outcome_in st p.1

pub returns-clause-value : goal.returns-clause-value
returns-clause-value c = told c

pub returns-clause-outcome_promise : goal.returns-clause-outcome_promise
returns-clause-outcome_promise c = (tells _ (told c)).1
