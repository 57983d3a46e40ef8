use Rattle.std.proofs.Common.{◌∙◌, sym, to_z-of_z, arith}
use Rattle.reach_avoid.specs.WholeLaws.{small, sub-fits}
use Rattle.reach_avoid.specs.Room.{room, state_at}
use Rattle.reach_avoid.specs.RoomLaws.{reply_home, reply_with, reply_without}
use Rattle.reach_avoid.specs.TableLaws.{held_home, held_away, held_answer}
use Rattle.reach_avoid.proofs.answer_to.Goals as goal

pub returns-then-t-k-eq0 : goal.returns-then-t-k-eq0
returns-then-t-k-eq0 c =
    let a = c.args in
    reply_home a.n (state_at a.k) (room.drive a.i) (held_home a.t.now c.requires.4 a.k c.requires.0 c.if-t-k-eq0.true)

pub returns-in_err-j : goal.returns-in_err-j
returns-in_err-j c =
    let a = c.args in
    let e = held_answer a.t.now c.requires.4 a.n c.requires.2 c.requires.3 (state_at a.k) (room.drive a.i) in
    rw c.from_residual.ensures
    (reply_without a.n (state_at a.k) (room.drive a.i) (held_away a.t.now c.requires.4 a.k c.requires.0 c.if-t-k-eq0.false) (sym c.in_err-j.ensures ∙ e) (omega arith))

pub returns : goal.returns
returns c =
    let a = c.args in
    let j = c.in_ok-j.j in
    let e = held_answer a.t.now c.requires.4 a.n c.requires.2 c.requires.3 (state_at a.k) (room.drive a.i) in
    rw (small j (omega (arith, c.in_ok-j.ensures.0)), to_z-of_z (sub-fits j 1 (omega (arith, c.in_ok-j.ensures.0)) (omega arith)))
    (reply_with a.n (state_at a.k) (room.drive a.i) (held_away a.t.now c.requires.4 a.k c.requires.0 c.if-t-k-eq0.false) (c.in_ok-j.ensures.1 ∙ e) c.in_ok-j.ensures.0)
