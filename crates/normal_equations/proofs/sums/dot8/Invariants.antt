use Rattle.std.proofs.Common.{◌≡◌}
use Rattle.normal_equations.specs.Normal as Normal
use Rattle.normal_equations.proofs.sums.dot8.Given as goal

-- each of the eight sums is the definition's over the first i rows
abbrev pub invariant-loop-i : goal.invariant-loop-i
invariant-loop-i l = (l.a ≡ Normal.dot l.i l.o l.q) × (l.b ≡ Normal.dot l.i l.o l.t) × (l.c ≡ Normal.dot l.i l.o l.u) × (l.d ≡ Normal.dot l.i l.o l.v) × (l.e ≡ Normal.dot l.i l.p l.q) × (l.f ≡ Normal.dot l.i l.p l.t) × (l.g ≡ Normal.dot l.i l.p l.u) × (l.h ≡ Normal.dot l.i l.p l.v)
