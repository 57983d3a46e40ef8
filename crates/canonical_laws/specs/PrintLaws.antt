-- A digit never follows a float in the canonical text. Assumes nothing.
use Rattle.std.specs.Prelude.{◌≡◌, refl, true, false, List, [], ◌∷◌, ◌++◌, leb, Float, Option, Some, None}
use Rattle.std.proofs.Common.{sym, ◌∙◌}
use Rattle.actuators.specs.declared.Actuators.{Actuators}
use Rattle.problem.specs.declared.Problem.{Problem}
use Rattle.text.specs.Bytes.{bytes}
use Rattle.text.specs.Hex.{digit}
use Rattle.canonical_laws.specs.Pieces.{Piece, lit, num, non, Entry, wheel, thruster, pyramid, nums, floats, limit, line, weights, entry, entries, listed, wheels_of, thrusters_of, momenta_of, actuators, pieces}
use Rattle.canonical_laws.specs.Positions.{both}
use Rattle.canonical_laws.specs.Spans.{first, apart}
use Rattle.canonical_laws.specs.LineLaws.{no_ok}

-- ---- what follows its floats

apart_num : (x : Float) (ps : List Piece) → leb 16 (digit (first ps)) ≡ true → apart ps ≡ true → apart (num x ∷ ps) ≡ true
unfolding apart
apart_num x ps p q = rw (p, q)

forty_eight : leb 16 (digit 48) ≡ false
unfolding digit
forty_eight = refl

apart_join : (ps qs : List Piece) → apart ps ≡ true → apart qs ≡ true → apart (ps ++ qs) ≡ true
unfolding apart
apart_join [] qs p q = q
apart_join (lit w ∷ ps) qs p q = apart_join ps qs p q
apart_join (non ∷ ps) qs p q = apart_join ps qs p q
apart_join (num x ∷ ps) qs p q = let b = both _ _ p in go ps b.0 (apart_join ps qs b.1 q)
  where
    go : (ps : List Piece) → leb 16 (digit (first ps)) ≡ true → apart (ps ++ qs) ≡ true → apart (num x ∷ (ps ++ qs)) ≡ true
    go [] e r = no_ok (sym forty_eight ∙ e)
    go (lit w ∷ ps) e r = apart_num x (lit w ∷ (ps ++ qs)) e r
    go (num y ∷ ps) e r = apart_num x (num y ∷ (ps ++ qs)) e r
    go (non ∷ ps) e r = apart_num x (non ∷ (ps ++ qs)) e r

apart_entry : (e : Entry) → apart (entry e) ≡ true
unfolding apart digit
apart_entry (wheel w) = go w.max_power_w
  where
    go : (l : Option Float) → apart (lit (bytes "  (wheel") ∷ nums (floats 3 w.axis) (num w.max_torque_nm ∷ num w.max_momentum_nms ∷ limit l ∷ lit (bytes ")") ∷ [])) ≡ true
    go None = refl
    go (Some x) = refl
apart_entry (thruster t) = refl
apart_entry (pyramid p) = refl

apart_entries : (es : List Entry) (rest : List Piece) → apart rest ≡ true → apart (entries es rest) ≡ true
unfolding apart
apart_entries [] rest h = h
apart_entries (e ∷ es) rest h = apart_join (entry e) (entries es rest) (apart_entry e) (apart_entries es rest h)

apart_actuators : (a : Actuators) → apart (actuators a) ≡ true
unfolding actuators apart
apart_actuators a = apart_entries (listed (wheels_of a) (thrusters_of a) a.cmgs) (lit (bytes "))\n") ∷ []) refl

apart_slew : (l : Option Float) (rest : List Piece) → apart rest ≡ true → apart (limit l ∷ lit (bytes ")\n") ∷ rest) ≡ true
unfolding apart digit
apart_slew None rest h = h
apart_slew (Some x) rest h = h

apart_nums : (xs : List Float) (rest : List Piece) → leb 16 (digit (first rest)) ≡ true → apart rest ≡ true → (apart (nums xs rest) ≡ true) × (leb 16 (digit (first (nums xs rest))) ≡ true)
unfolding digit
apart_nums [] rest f a = (a, f)
apart_nums (x ∷ xs) rest f a = let r = apart_nums xs rest f a in (apart_num x (nums xs rest) r.1 r.0, refl)

-- from the momenta on
abbrev ending : Problem → List Piece
ending p = lit (bytes " (momenta") ∷ nums (momenta_of p.momenta) (lit (bytes ")\n") ∷ actuators p.actuators)

apart_ending : (p : Problem) → apart (ending p) ≡ true
unfolding apart digit
apart_ending p = (apart_nums (momenta_of p.momenta) (lit (bytes ")\n") ∷ actuators p.actuators) refl (apart_actuators p.actuators)).0

pub print_apart : (p : Problem) → apart (pieces p) ≡ true
unfolding pieces apart digit
print_apart p =
    apart_slew p.slew
    (line (bytes " (weights") (weights p.weights) (bytes ")\n") ++ line (bytes " (tolerance") (p.norm_tolerance ∷ p.tie_tolerance ∷ []) (bytes ")\n") ++ ending p)
    (apart_ending p)
