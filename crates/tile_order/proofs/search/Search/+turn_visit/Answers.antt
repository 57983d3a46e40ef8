-- `turn` and `visit` do what their definitions say, and leave what is searched as it was. Assumes nothing.
use Rattle.std.proofs.Common.{◌≡◌, false, ℕ, ◌+◌, ◌-◌, ◌^◌, ◌<◌, get_or, set, length, length-set, get_or-set_other, refl, sym, ◌∙◌, arith}
use Rattle.std.proofs.Math.Seq.{get_or-set_same}
use borrow.Author.Tests.{le-leb, lt-leb}
use Rattle.common.specs.Iter.{iter}
use Rattle.common.specs.IterLaws.{iter_none}
use Rattle.tile_order.specs.Search as Rules
use Rattle.tile_order.specs.Inner.{Links, Ready, Stands}
use Rattle.tile_order.specs.TurnLaws.{turn_spent, turn_dropped, turn_on, visit_none, visit_some}
use Rattle.tile_order.specs.LinkLaws.{next_stands, taken_out}
use Rattle.tile_order.specs.WalkLaws.{put_back, past_link, at_end, shut}
use Rattle.tile_order.proofs.search.Search.+turn_visit.Goals as goal

-- ---- what `turn` needs

-- the tile that a place links to is left
free : (n : ℕ) (p a : _) (k i : ℕ) → Links n p k a → Stands n p k i → get_or a i 0 < n → Rules.seen p k (get_or a i 0) ≡ false
free n p a k i r s l = (r.link i s).free l

-- with that tile placed, and out of the links, the deeper search can go on
deeper : (n : ℕ) (t : _) (l j : ℕ) (p : _) (c : ℕ) (a : _) (i m : ℕ) → Ready n t (l + 1) j p c a → Stands n p (j + 1) i → get_or a i 0 < n → m < 2 ^ 32
    → Ready n t l (j + 1) (set p (j + 1) (get_or a i 0)) (c + m) (set a i (get_or a (get_or a i 0 + 1) 0))
deeper n t l j p c a i m r s lt h =
    let x = get_or a i 0 in
    let g : j + 1 < length p = omega (arith, r.rest, r.few, r.long) in
    record {
      few = r.few;
      size = r.size;
      rest = omega (arith, r.rest);
      long = length-set p (j + 1) x ∙ r.long;
      last = rw (get_or-set_same p (j + 1) x 0 g) lt;
      room = omega (arith, r.room);
      blank = λ i l. get_or-set_other p (j + 1) i x 0 (λ e. omega arith) ∙ r.blank i (omega arith);
      links = taken_out n p (j + 1) i a x r.links s refl lt r.few g;
    }

pub turn-returns-then-self-clause-result_after : goal.turn-returns-then-self-clause-result_after
turn-returns-then-self-clause-result_after t c =
    sym (turn_spent _ _ _ _ _ _ _ _ _ refl (free _ _ _ _ _ c.requires.0.links c.requires.1 c.requires.2) (le-leb _ _ c.if-self.true))

pub turn-returns-then-self-further-clause-result_after : goal.turn-returns-then-self-further-clause-result_after
turn-returns-then-self-further-clause-result_after t c =
    sym (turn_dropped _ _ _ _ _ _ _ _ _ refl (free _ _ _ _ _ c.requires.0.links c.requires.1 c.requires.2) (lt-leb _ _ c.if-self.false) (le-leb _ _ (rw c.leg.ensures.0 at c.if-self-further.true)))

pub turn-visit-exhausted-requires : goal.turn-visit-exhausted-requires
turn-visit-exhausted-requires t c =
    (omega arith, deeper _ _ _ _ _ _ _ _ _ c.requires.0 c.requires.1 c.requires.2 c.leg.ensures.1)

pub turn-returns-clause-result_after : goal.turn-returns-clause-result_after
turn-returns-clause-result_after t c =
    turn_on _ _ _ _ _ _ _ _ _ refl (free _ _ _ _ _ c.requires.0.links c.requires.1 c.requires.2) (lt-leb _ _ c.if-self.false) c.leg.ensures.0 (lt-leb _ _ c.if-self-further.false) c.visit-exhausted.ensures.result_after

pub turn-returns-clause-path_unchanged : goal.turn-returns-clause-path_unchanged
turn-returns-clause-path_unchanged t c =
    let s = c.args.self.now in
    put_back s.path (c.args.done + 1) (get_or s.after c.args.low 0) 0 c.visit-exhausted.ensures.path_unchanged (c.requires.0.blank (c.args.done + 1) (omega arith))

pub turn-returns-clause-after_unchanged : goal.turn-returns-clause-after_unchanged
turn-returns-clause-after_unchanged t c =
    let s = c.args.self.now in
    put_back s.after c.args.low (get_or s.after (get_or s.after c.args.low 0 + 1) 0) (get_or s.after c.args.low 0) c.visit-exhausted.ensures.after_unchanged refl

-- ---- what `visit` needs

pub visit-returns-then-left-eq0-clause-result_after : goal.visit-returns-then-left-eq0-clause-result_after
visit-returns-then-left-eq0-clause-result_after t c = sym (visit_none _ _ _ _ _ _ _ _ c.if-left-eq0.true)

pub visit-loop-self-init : goal.visit-loop-self-init
visit-loop-self-init t c =
    record {
      stands = record { within = omega arith; from = λ l. absurd (omega arith) };
      table_is = refl;
      budget_is = refl;
      path_is = refl;
      after_is = refl;
      so_far = iter_none _ _;
    }

pub visit-returns-then-turn-clause-result_after : goal.visit-returns-then-turn-clause-result_after
visit-returns-then-turn-clause-result_after t c =
    let i = c.loop-self.invariant in
    let s = c.args.self.now in
    let l : get_or s.after c.loop-self.low 0 < s.table.n = rw (i.table_is, i.after_is) at c.loop-self-test.true in
    let e = rw (i.table_is, i.budget_is) at c.turn.ensures.result_after in
    shut _ _ _ _ _ _ _ _ (get_or s.after c.loop-self.low 0 + 1) (omega (arith, l))
    (past_link _ _ _ _ _ _ _ _ s.after c.requires.links c.loop-self.low i.stands i.so_far refl i.path_is i.after_is c.if-turn.true e) refl
    ∙ sym (visit_some _ _ _ _ _ _ _ _ (omega arith))

pub visit-loop-self-preserved : goal.visit-loop-self-preserved
visit-loop-self-preserved t c =
    let i = c.loop-self.invariant in
    let r = c.requires in
    let s = c.args.self.now in
    let x = get_or s.after c.loop-self.low 0 in
    let l : x < s.table.n = rw (i.table_is, i.after_is) at c.loop-self-test.true in
    let a = c.turn.ensures.after_unchanged ∙ i.after_is in
    let e = rw (i.table_is, i.budget_is) at c.turn.ensures.result_after in
    record {
      stands = rw a (next_stands s.table.n s.path (c.args.done + 1) c.loop-self.low s.after x r.links i.stands refl l r.few (omega (arith, r.rest, r.few, r.long)));
      table_is = c.turn.ensures.asked_unchanged.0 ∙ i.table_is;
      budget_is = c.turn.ensures.asked_unchanged.1 ∙ i.budget_is;
      path_is = c.turn.ensures.path_unchanged ∙ i.path_is;
      after_is = a;
      so_far = rw a (past_link _ _ _ _ _ _ _ _ s.after r.links c.loop-self.low i.stands i.so_far refl i.path_is i.after_is c.if-turn.false e);
    }

pub visit-returns-clause-result_after : goal.visit-returns-clause-result_after
visit-returns-clause-result_after t c =
    let i = c.loop-self.invariant in
    let s = c.args.self.now in
    let f = Rules.turn (Rules.visit s.table.n s.budget s.table.times.now (c.args.left - 1) (c.args.done + 1)) s.table.n s.budget s.table.times.now s.path c.args.done c.args.cost in
    let e : Rules.progress c.loop-self.self.best c.loop-self.self.bound c.loop-self.self.placed false ≡ iter f (Rules.progress s.best s.bound s.placed false) s.table.n =
    at_end _ _ _ _ _ _ _ _ s.after c.requires.links c.loop-self.low i.stands i.so_far refl (rw (i.table_is, i.after_is) at c.loop-self-test.false) in
    e ∙ sym (visit_some _ _ _ _ _ _ _ _ (omega arith))
