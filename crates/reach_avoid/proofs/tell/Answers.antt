use Rattle.std.proofs.Common.{◌≡◌, ℕ, ◌≤◌, ◌<◌, ◌∙◌, get_or, to_z-of_z, arith}
use Rattle.reach_avoid.specs.WholeLaws.{small, sub-fits}
use Rattle.reach_avoid.specs.Game.{fewest}
use Rattle.reach_avoid.specs.Room.{State, room, state_at}
use Rattle.reach_avoid.specs.RoomLaws.{tell_forced, turns_few, some_choice}
use Rattle.reach_avoid.specs.TableLaws.{held_choice}
use Rattle.reach_avoid.proofs.tell.Goals as goal

pub unreachable-requires : goal.unreachable-requires
unreachable-requires c =
    let a = c.args in
    let st : State = state_at a.k in
    let n : ℕ = get_or a.t.now a.k 0 in
    let q : n ≡ fewest room 255 64 st = c.requires.1.entry a.k c.requires.0 in
    let few : n ≤ 64 = turns_few st q c.if-n.false in
    omega (arith, some_choice st q c.if-n-eq0.false c.if-n.false, held_choice a.t.now c.requires.1 n (omega arith) few st, c.lowest_choice.ensures)

pub returns : goal.returns
returns c =
    let a = c.args in
    let st : State = state_at a.k in
    let n : ℕ = get_or a.t.now a.k 0 in
    let q : n ≡ fewest room 255 64 st = c.requires.1.entry a.k c.requires.0 in
    let few : n ≤ 64 = turns_few st q c.if-n.false in
    let i = c.in-Some.i in
    let l : i < 5 = c.in-Some.ensures.0 in
    rw (small i (omega arith), to_z-of_z (sub-fits i 2 (omega arith) (omega arith)))
    (tell_forced st q c.if-n-eq0.false c.if-n.false (c.in-Some.ensures.1 ∙ held_choice a.t.now c.requires.1 n (omega arith) few st))
