use Rattle.std.proofs.Common.{◌≡◌, ◌≤◌, ◌∙◌, ap, ap₂, sym, to_z-of_z, Ok, Err, arith}
use Rattle.std.proofs.lemmas.Grind.{common_steps}
use Rattle.std.proofs.lemmas.Result.{err_from_is_err_and}
use Rattle.reach_avoid.specs.LeastLaws.{clash}
use Rattle.reach_avoid.specs.WholeLaws.{Counted, counted_word, is_one, sub_is}
use Rattle.reach_avoid.specs.Room.{State, replying, out_of_range, reply}
use Rattle.reach_avoid.specs.RoomLaws.{reply_out, reply_in_law}
use Rattle.reach_avoid.specs.TableInner.{Start}
use Rattle.reach_avoid.proofs.PromisesKept.{replies}
use Rattle.reach_avoid.proofs.reply.Goals.{Then-not-contains, After-answer_to}
use Rattle.reach_avoid.proofs.reply.Goals as goal

pub returns-in_err-k-clause-value : goal.returns-in_err-k-clause-value
returns-in_err-k-clause-value c =
    let a = c.args in
    let e : Start (record { angle = a.angle; rate = a.rate }) c.entry_of.result = rw (to_z-of_z c.ranges.angle, to_z-of_z c.ranges.rate) at c.entry_of.ensures in
    let p = err_from_is_err_and c.from_residual.result c.from_residual.ensures.1 in
    rw p.1 (reply_out _ a.left a.choice (λ i w l m. clash i (rw c.in_err-k.was at e)))

pub returns-in_err-i-clause-value : goal.returns-in_err-i-clause-value
returns-in_err-i-clause-value c =
    let a = c.args in
    let i : Counted 2 a.choice c.counted.result = counted_word 2 (omega arith) c.ranges.choice c.counted.ensures in
    let p = err_from_is_err_and c.from_residual-in_err-i.result c.from_residual-in_err-i.ensures.1 in
    rw p.1 (reply_out _ a.left a.choice (λ x w l m. clash w (rw c.in_err-i.was at i)))

past : (c : Then-not-contains) → Err out_of_range ≡ reply (record { angle = c.args.angle; rate = c.args.rate }) c.args.left c.args.choice
past c = reply_out _ c.args.left c.args.choice (λ x w l m. grind (arith, common_steps))

pub returns-then-not-contains-clause-value : goal.returns-then-not-contains-clause-value
returns-then-not-contains-clause-value c = past c

pub returns-then-not-contains-clause-reply_promise : goal.returns-then-not-contains-clause-reply_promise
returns-then-not-contains-clause-reply_promise c = (replies _ c.args.left c.args.choice (past c)).1

pub answer_to-requires : goal.answer_to-requires
answer_to-requires c =
    let i : Counted 2 c.args.choice c.counted.result = counted_word 2 (omega arith) c.ranges.choice c.counted.ensures in
    let p = rw c.in_ok-i.was at i in
    (c.in_ok-k.ensures.0, omega (arith, p.2), grind (arith, common_steps), grind (arith, common_steps), c.fill.ensures)

told : (c : After-answer_to) → Ok c.answer_to.result ≡ reply (record { angle = c.args.angle; rate = c.args.rate }) c.args.left c.args.choice
told c =
    let a = c.args in
    let st : State = record { angle = a.angle; rate = a.rate } in
    let e : Start st c.entry_of.result = rw (to_z-of_z c.ranges.angle, to_z-of_z c.ranges.rate) at c.entry_of.ensures in
    let p = rw c.in_ok-k.was at e in
    let i : Counted 2 a.choice c.counted.result = counted_word 2 (omega arith) c.ranges.choice c.counted.ensures in
    let q = rw c.in_ok-i.was at i in
    let few : 1 ≤ a.left = grind (arith, common_steps) in
    let most : a.left ≤ 64 = grind (arith, common_steps) in
    ap Ok (c.answer_to.ensures ∙ ap₂ (λ x u. replying a.left x u) (sym p.2) (is_one (sub_is c.in_ok-i.i 2) q.1)) ∙ reply_in_law st a.left a.choice p.1 q.0 few most

pub returns-clause-value : goal.returns-clause-value
returns-clause-value c = told c

pub returns-clause-reply_promise : goal.returns-clause-reply_promise
returns-clause-reply_promise c = (replies _ c.args.left c.args.choice (told c)).1
