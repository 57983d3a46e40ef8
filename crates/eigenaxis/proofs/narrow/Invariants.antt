use Rattle.std.proofs.Common.{◌≡◌, ◌+◌, ◌*◌, ◌≤◌, length}
use Rattle.common.specs.Iter.{iter}
use Rattle.eigenaxis.specs.Ladders as Ladders
use Rattle.eigenaxis.specs.Keeps.{Keeps}
use Rattle.eigenaxis.proofs.narrow.Given as goal

-- the definition's ladder after so many turns, at most 7,802 runs a turn
abbrev pub invariant-loop : goal.invariant-loop
invariant-loop l = record {
  same : l.s ≡ iter (Ladders.narrow_turn l.q l.shape (length l.initial.ws)) l.initial.s l.counter;
  runs : l.s.runs ≤ l.initial.s.runs + l.counter * 7802;
  keeps : Keeps l.q l.shape l.initial.s l.s l.initial.ws l.ws;
}
